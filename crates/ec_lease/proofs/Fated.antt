-- Steps by their fates.
use Rattle.std.proofs.Common.{◌≡◌, ℕ, Option, Result, Ok, Err, subst, sym, ap, ◌∙◌}
use Rattle.std.specs.Prelude.{List, OnOk}
use Rattle.ec_disk.specs.Disk.{Counts}
use Rattle.ec_disk.specs.declared.disk.Choice.{Choice}
use Rattle.ec_durable.specs.declared.state.Durable.{Durable}
use Rattle.ec_history.specs.declared.shown.Shown.{Shown}
use Rattle.ec_protocol.specs.World.{Fate, runs, stops_without, stops_with}
use Rattle.ec_protocol.specs.declared.world.World.{World}
use Rattle.ec_lease_machine.specs.Leases.{LeaseMoving}
use Rattle.ec_marking.proofs.Runs.{run_same}
use Rattle.ec_world.specs.StepEnds.{FateOf}
use Rattle.ec_world.specs.Steps.{IsShown}
use Rattle.ec_lease.specs.Steps.{LeaseFated, MayStop}

pub may_stop : (fate : Fate) (ch : Choice) (armed : Option ℕ) (before after : List Shown) → IsShown fate ch armed before after → MayStop fate ch armed
may_stop runs ch armed before after is = tt
may_stop stops_without ch armed before after is = is.1
may_stop stops_with ch armed before after is = is.1

-- a step that makes no call of the disk
pub quiet : {A F : Type 0} (r : Result A F) (tells : Type 0) (w : World) (counts : Counts) (steps : Fate → LeaseMoving) (m : LeaseMoving) → m.world.world.durable ≡ w.durable → OnOk r (steps runs ≡ m) → OnOk r (LeaseFated tells w counts counts steps m)
quiet (Ok x) tells w counts steps m same is = (runs, record { of_disk = run_same w.durable m.world.world.durable counts same; may_stop = λ told. tt }, λ told. is)
quiet (Err f) tells w counts steps m same is = tt

-- what follows a step, and leaves the durable state
pub fated_on : (tells : Type 0) (w : World) (old new : Counts) (steps : Fate → LeaseMoving) (m n : LeaseMoving) (on : LeaseMoving → LeaseMoving) → on m ≡ n → n.world.world.durable ≡ m.world.world.durable → LeaseFated tells w old new steps m → LeaseFated tells w old new (λ fate. on (steps fate)) n
fated_on tells w old new steps m n on is same fated = (
  fated.0,
  record { of_disk = subst (λ (d : Durable). FateOf fated.0 w.durable d old new) (sym same) fated.1.of_disk; may_stop = fated.1.may_stop },
  λ told. ap on (fated.2 told) ∙ is,
)
