-- Steps that make no call of the disk.
use Rattle.std.proofs.Common.{◌≡◌, ℕ, List, Result, Ok, Err, refl, arith, inl}
use Rattle.std.specs.Prelude.{IfErr, OnOk}
use Rattle.ec_disk.specs.Disk.{View, Counts}
use Rattle.ec_disk.specs.Effects.{Counted}
use Rattle.ec_disk.specs.declared.disk.Choice.{Choice}
use Rattle.ec_durable.specs.declared.state.Durable.{Durable}
use Rattle.ec_history.specs.declared.shown.Shown.{Shown}
use Rattle.ec_stands.specs.Stands.{StandsFor}
use Rattle.ec_protocol.specs.World.{Fate, runs, Moving}
use Rattle.ec_protocol.specs.declared.world.World.{World as State}
use Rattle.ec_protocol.specs.declared.world.WorldFault.{WorldFault}
use Rattle.ec_protocol.specs.declared.world.WorldFault.TheVariants as world
use Rattle.ec_clerk.specs.OfRunning.Faults.{of_step}
use Rattle.ec_world.specs.Laws.{in_step_keeps, in_step_stands}
use Rattle.ec_world.specs.StepEnds.{Fated, RefusesEvent, Declines, IsLeft, as_before}
use Rattle.ec_world.specs.Worlds.{view_of, IsInStep, KeepsServer}
use Rattle.ec_clerk.specs.declared.running.fault.StepFault.{StepFault}
use Rattle.ec_clerk.specs.declared.running.fault.StepFault.TheVariants as step
use Rattle.ec_world.specs.declared.world.World.{World}
use Rattle.ec_marking.proofs.Runs.{run_same}

-- a step that makes no call of the disk
pub fated : {A : Type 0} (r : Result A StepFault) (tells : Type 0) (before : Durable) (lines : List Shown) (counts : Counts) (ch : Choice) (steps : Fate → Moving) (m : Moving) → m.world.durable ≡ before → OnOk r (steps runs ≡ m) → OnOk r (Fated tells before lines counts counts ch steps m)
fated (Ok x) tells before lines counts ch steps m same is = (runs, run_same before m.world.durable counts same, λ told. is, λ told. tt)
fated (Err f) tells before lines counts ch steps m same is = tt

pub in_step : {A : Type 0} (r : Result A StepFault) (tells : Type 0) (now : View) (old new : World) → KeepsServer old new → IsInStep tells now old → OnOk r (IsInStep tells now new)
in_step (Ok x) tells now old new same h = in_step_keeps tells now old new same h
in_step (Err f) tells now old new same h = tt

refuses_by : (why : StepFault) (m : Moving) (old new : State) (S : Type 0) → Declines why m old new → S → RefusesEvent (of_step why) m old new S
refuses_by step.DiskFailed m old new S d s = absurd d
refuses_by (step.Spent n) m old new S d s = (d.0, d.1, s)
refuses_by step.NoSuchOp m old new S d s = (d.0, d.1, s)
refuses_by step.NoSuchMsg m old new S d s = (d.0, d.1, s)
refuses_by step.NoMemory m old new S d s = tt

pub refuses : {A : Type 0} (r : Result A StepFault) (m : Moving) (old new : State) (S : Type 0) → IfErr r (λ why. Declines why m old new) → S → IfErr r (λ why. RefusesEvent (of_step why) m old new S)
refuses (Ok x) m old new S d s = tt
refuses (Err why) m old new S d s = refuses_by why m old new S d s

not_failed_by : {A : Type 0} (why : StepFault) (m : Moving) (old new : State) (r : Result A StepFault) → Declines why m old new → r ≡ Err why → r ≡ Err step.DiskFailed → ⊥
not_failed_by step.DiskFailed m old new r d is failed = d
not_failed_by (step.Spent n) m old new r d is failed = cc
not_failed_by step.NoSuchOp m old new r d is failed = cc
not_failed_by step.NoSuchMsg m old new r d is failed = cc
not_failed_by step.NoMemory m old new r d is failed = cc

pub not_failed : {A : Type 0} (r : Result A StepFault) (m : Moving) (old new : State) → IfErr r (λ why. Declines why m old new) → r ≡ Err step.DiskFailed → ⊥
not_failed (Ok x) m old new d failed = cc
not_failed (Err why) m old new d failed = not_failed_by why m old new (Err why) d refl failed

pub uncounted : (n : Counts) (F : Type 0) → (F → ⊥) → Counted n n F ⊥
uncounted n F never = record {
  faults_later = omega arith;
  stops_later = omega arith;
  failed = λ f. absurd (never f);
  stopped = λ s. absurd s;
  armed = λ s. absurd s;
  not_rearmed = λ a. a;
  stays = λ a. a;
  over = λ s. absurd s;
}

pub left_as_was : {A : Type 0} (r : Result A StepFault) (tells : Type 0) (now : View) (w : World) (m : Moving) → IsInStep tells now w → IfErr r (λ why. tells → (image : List ℕ) → now.may_leave image → IsLeft (view_of w).durable m image)
left_as_was (Ok x) tells now w m h = tt
left_as_was (Err why) tells now w m h = λ told image left. as_before (in_step_stands tells now w h told image left)
