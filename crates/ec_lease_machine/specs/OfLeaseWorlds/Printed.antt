-- The lines of a world with leases: printed order is legal.
use Rattle.std.specs.Prelude.{◌≡◌, ℕ, List, ◌++◌, length}
use Rattle.ec_volume.specs.Volume.{Images, images}
use Rattle.ec_volume.specs.declared.image.Image.TheVariants.{Gone}
use Rattle.ec_history.specs.Legal.{IsLegal}
use Rattle.ec_history.specs.declared.shown.Shown.{Shown}
use Rattle.ec_durable.specs.WellFormed.{WellFormed}
use Rattle.ec_durable.specs.declared.state.Durable.{Durable}
use Rattle.ec_protocol.specs.declared.world.World.{World}
use Rattle.ec_lawful.specs.Headline.{placed_on}
use Rattle.ec_lawful.specs.Reached.{IsInOrder}
use Rattle.ec_lease_machine.specs.declared.world.LeaseWorld.{LeaseWorld}
use Rattle.ec_history.specs.OfLaws.OfPrinted.Printed.{printed}
use Rattle.ec_lease_machine.specs.OfLeaseWorlds.Queues.{LeaseReached}

-- Beside all that holds of a world without leases, each front of its lines is legal in the order in which they were printed: no clerk answers behind the
-- end of its session what it needed that session for.
pub record IsLeased (v : Images) (most : ℕ) (w : World) : Type 0 where
  pub order : IsInOrder v most w
  pub legal : (front rest : List Shown) → front ++ rest ≡ w.shown → IsLegal (placed_on v order.top) most (printed front)

-- So it is of each world with leases over a well-formed state with a slot for each clerk, and without an object of the id 0.
abbrev pub LeasesArePrinted : Type 0
LeasesArePrinted = (d : Durable) → WellFormed d → length d.sessions ≡ 16 → images d.volume 0 ≡ Gone → (x : LeaseWorld) → LeaseReached d x → IsLeased (images d.volume) d.max_objects x.world
