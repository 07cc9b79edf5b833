-- Worlds of runs over a state: that the calls of a world lead from one to the next, and that each is in order.
use Rattle.ec_volume.specs.Volume.{images}
use Rattle.ec_durable.specs.declared.state.Durable.{Durable}
use Rattle.ec_disk.specs.Disk.{Counts}
use Rattle.ec_protocol.specs.World.{Fate}
use Rattle.ec_protocol.specs.declared.world.Event.{Event}
use Rattle.ec_protocol.specs.declared.world.World.{World as State}
use Rattle.ec_lawful.specs.Steps.{MayHappen}
use Rattle.ec_lawful.specs.Reached.{IsInOrder}
use Rattle.ec_lawful.specs.ReachedWorlds.{Reached}
use Rattle.ec_world.specs.Steps.{IsWhole}
use Rattle.ec_world.specs.StepEnds.{FateOf, IsTold}

-- The world is one of a run over the state: so its lines are lawful, it's coherent, and what is kept fits.
pub record IsReached (d : Durable) (w : State) : Type 0 where
  pub reached : Reached d w
  pub in_order : ∥ IsInOrder (images d.volume) d.max_objects w ∥₁

-- From a world of a run over a state an event that may happen leads to one.
abbrev pub Leads : State → Event → State → Type 0
Leads old e new = (d : Durable) → IsWhole d → Reached d old → MayHappen old e → IsReached d new

-- So it is where it's known what the disk did in the step.
abbrev pub LeadsKnown : Type 0 → Counts → Counts → State → Event → State → Type 0
LeadsKnown tells old_counts new_counts old e new = (fate : Fate) × FateOf fate old.durable new.durable old_counts new_counts × (IsTold fate tells → Leads old e new)

-- A call that is no event leads to one, too.
abbrev pub StaysReached : State → State → Type 0
StaysReached old new = (d : Durable) → Reached d old → Reached d new
