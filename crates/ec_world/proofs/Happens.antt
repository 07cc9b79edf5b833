-- What happens in a step, by its event.
use Rattle.std.proofs.Common.{◌≡◌, ℕ, List, [], Option, None, Some, Result, Ok, Err, sym, ap, subst, ◌∙◌, inl}
use Rattle.std.specs.Prelude.{IfErr, OnOk}
use Rattle.ec_disk.specs.Disk.{View, Counts}
use Rattle.ec_disk.specs.declared.disk.Choice.{Choice}
use Rattle.ec_durable.specs.declared.state.Durable.{Durable}
use Rattle.ec_history.specs.declared.shown.Shown.{Shown}
use Rattle.ec_protocol.specs.World.{Moving, runs, happen}
use Rattle.ec_protocol.specs.declared.world.World.{World as State}
use Rattle.ec_protocol.specs.declared.world.Event.{Event}
use Rattle.ec_protocol.specs.declared.world.Event.TheVariants as event
use Rattle.ec_server.specs.declared.server.Server.{Server}
use Rattle.ec_store.specs.Store.{IsHeld, view_of as state_of}
use Rattle.ec_store.specs.declared.store.Store.{Store}
use Rattle.ec_clerk.specs.OfRunning.Faults.{of_step}
use Rattle.ec_marking.specs.KeptRuns.{HasRun}
use Rattle.ec_world.specs.StepEnds.{under, Fated, RefusesEvent, Declines, behind_arm, CountsOf, IsLeft}
use Rattle.ec_world.specs.Worlds.{view_of, ServerStands, IsInStep}
use Rattle.ec_clerk.specs.declared.running.fault.StepFault.{StepFault}
use Rattle.ec_clerk.specs.declared.running.fault.StepFault.TheVariants as step
use Rattle.ec_world.specs.declared.world.World.{World}
use Rattle.ec_marking.proofs.Runs.{run_same}
use Rattle.ec_world.proofs.Quiet.{refuses}

-- an event that comes to this on a disk that isn't called behind the arm
pub acted : (tells : Type 0) (old new : Counts) (e this : Event) (w : State) (m : Moving) → e ≡ this → new ≡ behind_arm this old → m.world.durable ≡ w.durable → happen runs this w ≡ m → Fated tells w.durable w.shown (behind_arm e old) new w.choice (λ fate. happen fate e w) m
acted tells old new e this w m is same still h = (
  runs,
  subst (λ (c : Counts). HasRun w.durable m.world.durable c new) (same ∙ ap (λ (x : Event). behind_arm x old) (sym is)) (run_same w.durable m.world.durable new still),
  λ told. ap (λ (x : Event). happen runs x w) is ∙ h,
  λ told. tt,
)

pub acts : {A : Type 0} (r : Result A StepFault) (tells : Type 0) (old new : Counts) (e this : Event) (w : State) (m : Moving) → e ≡ this → new ≡ behind_arm this old → m.world.durable ≡ w.durable → OnOk r (happen runs this w ≡ m)
    → OnOk r (Fated tells w.durable w.shown (behind_arm e old) new w.choice (λ fate. happen fate e w) m)
acts (Ok x) tells old new e this w m is same still h = acted tells old new e this w m is same still h
acts (Err f) tells old new e this w m is same still h = tt

-- one that calls it
pub happens : {A : Type 0} (r : Result A StepFault) (tells : Type 0) (old new : Counts) (e this : Event) (w : State) (m : Moving) → e ≡ this → OnOk r (Fated tells w.durable w.shown (behind_arm this old) new w.choice (λ fate. happen fate this w) m)
    → OnOk r (Fated tells w.durable w.shown (behind_arm e old) new w.choice (λ fate. happen fate e w) m)
happens r tells old new e this w m is h = subst (λ (x : Event). OnOk r (Fated tells w.durable w.shown (behind_arm x old) new w.choice (λ fate. happen fate x w) m)) (sym is) h

pub acts_not : {A : Type 0} (r : Result A StepFault) (e this : Event) (old new : State) (S : Type 0) → e ≡ this → IfErr r (λ why. Declines why (happen runs this old) old new) → S → IfErr r (λ why. RefusesEvent (of_step why) (happen runs e old) old new S)
acts_not r e this old new S is h s =
    subst (λ (x : Event). IfErr r (λ why. RefusesEvent (of_step why) (happen runs x old) old new S)) (sym is) (refuses r (happen runs this old) old new S h s)

pub leaves : {A : Type 0} (r : Result A StepFault) (tells : Type 0) (may_leave : List ℕ → Type 0) (before : Durable) (e this : Event) (w : State) → e ≡ this → IfErr r (λ why. tells → (image : List ℕ) → may_leave image → IsLeft before (happen runs this w) image) → IfErr r (λ why. tells → (image : List ℕ) → may_leave image → IsLeft before (happen runs e w) image)
leaves r tells may_leave before e this w is h =
    subst (λ (x : Event). IfErr r (λ why. tells → (image : List ℕ) → may_leave image → IsLeft before (happen runs x w) image)) (sym is) h

-- Want of memory.

pub out_of_memory : {A : Type 0} (r : Result A StepFault) (P : Type 0) → r ≡ Err step.NoMemory → OnOk r P
out_of_memory (Ok x) P is = cc
out_of_memory (Err f) P is = tt

pub refuses_nothing : {A : Type 0} (r : Result A StepFault) (m : Moving) (old new : State) (S : Type 0) → r ≡ Err step.NoMemory → IfErr r (λ why. RefusesEvent (of_step why) m old new S)
refuses_nothing {A = A} r m old new S is = subst (λ (x : Result A StepFault). IfErr x (λ why. RefusesEvent (of_step why) m old new S)) (sym is) tt

pub not_failed_there : {A : Type 0} (r : Result A StepFault) → r ≡ Err step.NoMemory → r ≡ Err step.DiskFailed → ⊥
not_failed_there r is failed = cc

-- Stops and arms.

pub stopped_in_step : (tells : Type 0) (now : View) (old new : World) → new.store ≡ old.store → new.server ≡ None → IsInStep tells now old → IsInStep tells now new
stopped_in_step tells now old new same stopped h = record {
  server = subst (λ (v : Option Server). ServerStands (state_of new.store) v) (sym stopped) tt;
  disk = λ told. subst (λ (s : Store). IsHeld now s) (sym same) (h.disk told);
}

pub armed : (n : ℕ) (ch : Choice) (e : Event) (w : World) → e ≡ event.Arm n ch → w.piece.items ≡ [] → happen runs e (view_of w) ≡ under (record w { choice = ch })
armed n ch e w is fresh =
    let on : List Shown → Moving = λ lines. record { world = view_of (record w { choice = ch }); shown = lines; fault = None } in
    ap (λ (x : Event). happen runs x (view_of w)) is ∙ ap on (sym fresh)

pub arm_counts : (n : ℕ) (ch : Choice) (e : Event) (old new : Counts) (F N : Type 0) → e ≡ event.Arm n ch → new ≡ record old { armed = Some n } → (F → ⊥) → CountsOf e old new F N
arm_counts n ch e old new F N is arms never = subst (λ (x : Event). CountsOf x old new F N) (sym is) (inl arms, never)

-- an event that doesn't arm, on a disk that isn't called
pub still_counts : (e this : Event) (n : Counts) (F N : Type 0) → e ≡ this → CountsOf this n n F N → CountsOf e n n F N
still_counts e this n F N is h = subst (λ (x : Event). CountsOf x n n F N) (sym is) h
