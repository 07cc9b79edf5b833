-- The worlds of all runs over a durable state, between two steps.
use Rattle.std.specs.Prelude.{◌≡◌, None, Ok}
use Rattle.ec_history.specs.declared.shown.Shown.TheVariants.{Unsettled}
use Rattle.ec_durable.specs.declared.state.Durable.{Durable}
use Rattle.ec_protocol.specs.World.{Fate, forget, happen, moving, open_world, show_line}
use Rattle.ec_protocol.specs.declared.world.Event.{Event}
use Rattle.ec_protocol.specs.declared.world.World.{World}
use Rattle.ec_lawful.specs.Steps.{MayHappen}

-- A world over this state: it was opened, and then events happened that may, whatever the disk did in them; old messages were forgotten, and lines
-- that didn't settle were shown.
pub data Reached (d : Durable) : World → Type 0 where
  opens : (w : World) → open_world d ≡ Ok w → Reached d w
  happens : (w : World) → Reached d w → (fate : Fate) (e : Event) → MayHappen w e → (happen fate e w).fault ≡ None → Reached d (happen fate e w).world
  forgets : (w : World) → Reached d w → Reached d (forget w)
  unsettles : (w : World) → Reached d w → Reached d (show_line Unsettled (moving w)).world
