-- The worlds of all runs in which calls may wait in queues before they begin, between two steps.
use Rattle.std.specs.Prelude.{◌≡◌, ℕ, length, None, Ok}
use Rattle.ec_plain.specs.declared.call.Call.{Call}
use Rattle.ec_volume.specs.Volume.{images}
use Rattle.ec_volume.specs.declared.image.Image.TheVariants.{Gone}
use Rattle.ec_history.specs.declared.shown.Shown.TheVariants.{Unsettled}
use Rattle.ec_durable.specs.WellFormed.{WellFormed}
use Rattle.ec_durable.specs.declared.state.Durable.{Durable}
use Rattle.ec_protocol.specs.World.{Fate, forget, happen, moving, open_world, show_line}
use Rattle.ec_protocol.specs.declared.world.Event.{Event}
use Rattle.ec_protocol.specs.declared.world.World.{World}
use Rattle.ec_protocol.specs.Resumes.{resume, wait}
use Rattle.ec_lawful.specs.Asked.{AsksAgree}
use Rattle.ec_lawful.specs.Olds.{opened_in}
use Rattle.ec_lawful.specs.Reached.{IsInOrder}
use Rattle.ec_lawful.specs.ReachedWorlds.{Reached}
use Rattle.ec_lawful.specs.Steps.{HoldsIn, MayHappen}
use Rattle.ec_lawful.specs.Whole.{Whole}
use Rattle.ec_lease_machine.specs.OfQueues.Queued.{MayResume, MayWait}

-- A world over this state: it was opened, and then events happened that may, whatever the disk did in them; old messages were forgotten, and lines
-- that didn't settle were shown; and calls waited before they began.
pub data QueuedReached (d : Durable) : World → Type 0 where
  opens : (w : World) → open_world d ≡ Ok w → QueuedReached d w
  happens : (w : World) → QueuedReached d w → (fate : Fate) (e : Event) → MayHappen w e → (happen fate e w).fault ≡ None → QueuedReached d (happen fate e w).world
  forgets : (w : World) → QueuedReached d w → QueuedReached d (forget w)
  unsettles : (w : World) → QueuedReached d w → QueuedReached d (show_line Unsettled (moving w)).world
  waits : (w : World) → QueuedReached d w → (c l : ℕ) (cl : Call) → MayWait w c l cl → QueuedReached d (wait c l cl w).world
  resumes : (w : World) → QueuedReached d w → (c l : ℕ) (cl : Call) → MayResume w c l cl → (resume c l cl w).fault ≡ None → QueuedReached d (resume c l cl w).world

-- each world that is reached without queues is one of these
abbrev pub ReachedAreQueued : Type 0
ReachedAreQueued = (d : Durable) (w : World) → Reached d w → QueuedReached d w

-- Over a well-formed state with a slot for each clerk, and without an object of the id 0, they are in order, as those without queues are,
abbrev pub QueuedAreInOrder : Type 0
QueuedAreInOrder = (d : Durable) → WellFormed d → length d.sessions ≡ 16 → images d.volume 0 ≡ Gone → (w : World) → QueuedReached d w → IsInOrder (images d.volume) d.max_objects w

-- and stand in a system of which all facts hold, and in which nobody said goodbye.
abbrev pub QueuedHold : Type 0
QueuedHold = (d : Durable) → WellFormed d → length d.sessions ≡ 16 → images d.volume 0 ≡ Gone → (w : World) → QueuedReached d w → HoldsIn (λ g. Whole g × AsksAgree (opened_in d).first_boot g) w
