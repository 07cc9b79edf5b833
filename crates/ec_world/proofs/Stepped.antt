-- What a step answers, by what happened.
use Rattle.std.proofs.Common.{◌≡◌, ℕ, true, false, List, None, Result, Ok, Err, Vec, refl, sym, ap, subst, ◌∙◌, inr, ⊎_elim, inl}
use Rattle.std.specs.Prelude.{IfOk, IfErr, OnOk, IsOk, IsErrAnd}
use Rattle.ec_disk.specs.Disk.{View, Counts}
use Rattle.ec_disk.specs.Effects.{Counted}
use Rattle.ec_disk.specs.declared.disk.Choice.{Choice}
use Rattle.ec_durable.specs.declared.state.Durable.{Durable}
use Rattle.ec_history.specs.declared.shown.Shown.{Shown}
use Rattle.ec_protocol.specs.World.{Fate, Moving}
use Rattle.ec_protocol.specs.declared.world.World.{World as State}
use Rattle.ec_protocol.specs.declared.world.Event.{Event}
use Rattle.ec_protocol.specs.declared.world.Event.TheVariants as event
use Rattle.ec_protocol.specs.declared.world.WorldFault.{WorldFault}
use Rattle.ec_protocol.specs.declared.world.WorldFault.TheVariants as world
use Rattle.ec_clerk.specs.OfRunning.Faults.{of_step}
use Rattle.ec_world.specs.Laws.{in_step_keeps}
use Rattle.ec_world.specs.Steps.{IsShown}
use Rattle.ec_world.specs.StepEnds.{under, Fated, FateOf, IsTold, RefusesEvent, CountsOf}
use Rattle.ec_world.specs.Worlds.{view_of, IsInStep, KeepsServer}
use Rattle.ec_clerk.specs.declared.running.fault.StepFault.{StepFault}
use Rattle.ec_clerk.specs.declared.running.fault.StepFault.TheVariants as step
use Rattle.ec_world.specs.declared.world.World.{World}
use Rattle.ec_world.proofs.Quiet.{uncounted}

abbrev pub Answers : {A G : Type 0} → Result A StepFault → Result (Vec Shown G) WorldFault → List Shown → Type 0
Answers done answer piece = IfOk answer (λ shown. IsOk done × (shown.items ≡ piece))

abbrev pub Faults : {A G : Type 0} → Result A StepFault → Result (Vec Shown G) WorldFault → Type 0
Faults done answer = IfErr answer (λ fault. IsErrAnd done (λ why. fault ≡ of_step why))

pub answer_ok : {A G : Type 0} (done : Result A StepFault) (answer : Result (Vec Shown G) WorldFault) (tells : Type 0) (before : Durable) (lines : List Shown) (old new : Counts) (ch : Choice) (steps : Fate → Moving) (w end : World)
    → OnOk done (Fated tells before lines old new ch steps (under w)) → Answers done answer w.piece.items → view_of end ≡ view_of w
    → IfOk answer (λ shown. (fate : Fate) × FateOf fate before (view_of end).durable old new × (IsTold fate tells → steps fate ≡ record { world = view_of end; shown = shown.items; fault = None }) × (tells → IsShown fate ch old.armed lines (view_of end).shown))
answer_ok (Ok x) (Ok s) tells before lines old new ch steps w end fated is same =
    let at_end : State → Moving = λ v. record { world = v; shown = w.piece.items; fault = None } in
    let with_lines : List Shown → Moving = λ ls. record { world = view_of end; shown = ls; fault = None } in
    (fated.0, subst (λ (v : State). FateOf fated.0 before v.durable old new) (sym same) fated.1, λ told. fated.2 told ∙ ap at_end (sym same) ∙ ap with_lines (sym is.1), λ told. subst (λ (v : State). IsShown fated.0 ch old.armed lines v.shown) (sym same) (fated.3 told))
answer_ok (Ok x) (Err f) tells before lines old new ch steps w end fated is same = tt
answer_ok (Err f) (Ok s) tells before lines old new ch steps w end fated is same = let wrong : false ≡ true = is.0 in cc
answer_ok (Err f) (Err g) tells before lines old new ch steps w end fated is same = tt

pub answer_in_step : {A G : Type 0} (done : Result A StepFault) (answer : Result (Vec Shown G) WorldFault) (tells : Type 0) (now : View) (w end : World) (piece : List Shown) → OnOk done (IsInStep tells now w) → Answers done answer piece → KeepsServer w end → OnOk answer (IsInStep tells now end)
answer_in_step (Ok x) (Ok s) tells now w end piece h is same = in_step_keeps tells now w end same h
answer_in_step (Ok x) (Err f) tells now w end piece h is same = tt
answer_in_step (Err f) (Ok s) tells now w end piece h is same = let wrong : false ≡ true = is.0 in cc
answer_in_step (Err f) (Err g) tells now w end piece h is same = tt

refuses_with : (f : WorldFault) (m : Moving) (old new same : State) (S R : Type 0) → same ≡ new → (S → R) → RefusesEvent f m old new S → RefusesEvent f m old same R
refuses_with (world.BadDisk p) m old new same S R is by h = absurd h
refuses_with world.DiskFailed m old new same S R is by h = tt
refuses_with (world.Spent n) m old new same S R is by h = (h.0, is ∙ h.1, by h.2)
refuses_with world.NoSuchOp m old new same S R is by h = (h.0, is ∙ h.1, by h.2)
refuses_with world.NoSuchMsg m old new same S R is by h = (h.0, is ∙ h.1, by h.2)
refuses_with world.NoMemory m old new same S R is by h = tt

pub answer_err : {A G : Type 0} (done : Result A StepFault) (answer : Result (Vec Shown G) WorldFault) (m : Moving) (old : State) (tells : Type 0) (now : View) (w end : World) → IfErr done (λ why. RefusesEvent (of_step why) m old (view_of w) (IsInStep tells now w)) → Faults done answer → view_of end ≡ view_of w → KeepsServer w end → IfErr answer (λ fault. RefusesEvent fault m old (view_of end) (IsInStep tells now end))
answer_err (Ok x) (Ok s) m old tells now w end h is view same = tt
answer_err (Ok x) (Err f) m old tells now w end h is view same = absurd is
answer_err (Err f) (Ok s) m old tells now w end h is view same = tt
answer_err (Err why) (Err f) m old tells now w end h is view same =
    let stays = refuses_with (of_step why) m old (view_of w) (view_of end) (IsInStep tells now w) (IsInStep tells now end) view (λ s. in_step_keeps tells now w end same s) h in
    subst (λ (g : WorldFault). RefusesEvent g m old (view_of end) (IsInStep tells now end)) (sym is) stays

counted_less : (old new : Counts) (F G : Type 0) → (G → F) → Counted old new F ⊥ → Counted old new G ⊥
counted_less old new F G by h = record {
  faults_later = h.faults_later;
  stops_later = h.stops_later;
  failed = λ g. h.failed (by g);
  stopped = h.stopped;
  armed = h.armed;
  not_rearmed = h.not_rearmed;
  stays = h.stays;
  over = h.over;
}

counts_less : (e : Event) (old new : Counts) (F G M N : Type 0) → (G → F) → (M → N) → CountsOf e old new F M → CountsOf e old new G N
counts_less (event.Call c line cl) old new F G M N by wants h = counted_less old new F G by h
counts_less (event.Push c n) old new F G M N by wants h = counted_less old new F G by h
counts_less (event.Resend c) old new F G M N by wants h = counted_less old new F G by h
counts_less (event.Cut c) old new F G M N by wants h = counted_less old new F G by h
counts_less (event.Uncut c) old new F G M N by wants h = counted_less old new F G by h
counts_less (event.Drop n) old new F G M N by wants h = counted_less old new F G by h
counts_less (event.Repeat n) old new F G M N by wants h = counted_less old new F G by h
counts_less (event.Deliver n) old new F G M N by wants h = counted_less old new F G by h
counts_less (event.Crash c) old new F G M N by wants h = counted_less old new F G by h
counts_less (event.End c) old new F G M N by wants h = counted_less old new F G by h
counts_less event.Stop old new F G M N by wants h = counted_less old new F G by h
counts_less (event.Arm n ch) old new F G M N by wants h = (⊎_elim (λ arms. inl arms) (λ x. inr (wants x.0, x.1)) h.0, λ g. h.1 (by g))
counts_less event.Restart old new F G M N by wants h = counted_less old new F G by h

-- a step that isn't begun for want of memory
pub counts_same : (e : Event) (n : Counts) (F N : Type 0) → (F → ⊥) → N → CountsOf e n n F N
counts_same (event.Call c line cl) n F N never wants = uncounted n F never
counts_same (event.Push c m) n F N never wants = uncounted n F never
counts_same (event.Resend c) n F N never wants = uncounted n F never
counts_same (event.Cut c) n F N never wants = uncounted n F never
counts_same (event.Uncut c) n F N never wants = uncounted n F never
counts_same (event.Drop m) n F N never wants = uncounted n F never
counts_same (event.Repeat m) n F N never wants = uncounted n F never
counts_same (event.Deliver m) n F N never wants = uncounted n F never
counts_same (event.Crash c) n F N never wants = uncounted n F never
counts_same (event.End c) n F N never wants = uncounted n F never
counts_same event.Stop n F N never wants = uncounted n F never
counts_same (event.Arm m ch) n F N never wants = (inr (wants, refl), never)
counts_same event.Restart n F N never wants = uncounted n F never

failed_only : (why : StepFault) (f : WorldFault) → f ≡ of_step why → f ≡ world.DiskFailed → why ≡ step.DiskFailed
failed_only step.DiskFailed f is failed = refl
failed_only (step.Spent n) f is failed = cc
failed_only step.NoSuchOp f is failed = cc
failed_only step.NoSuchMsg f is failed = cc
failed_only step.NoMemory f is failed = cc

failed_before : {A G : Type 0} (done : Result A StepFault) (answer : Result (Vec Shown G) WorldFault) → Faults done answer → answer ≡ Err world.DiskFailed → done ≡ Err step.DiskFailed
failed_before done (Ok s) is failed = cc
failed_before (Ok x) (Err f) is failed = absurd is
failed_before (Err why) (Err f) is failed = let fault_is : f ≡ world.DiskFailed = cc in ap Err (failed_only why f is fault_is)

pub answer_counts : {A G : Type 0} (done : Result A StepFault) (answer : Result (Vec Shown G) WorldFault) (e : Event) (old new : Counts) → CountsOf e old new (done ≡ Err step.DiskFailed) ⊥ → Faults done answer → CountsOf e old new (answer ≡ Err world.DiskFailed) (answer ≡ Err world.NoMemory)
answer_counts done answer e old new h is = counts_less e old new (done ≡ Err step.DiskFailed) (answer ≡ Err world.DiskFailed) ⊥ (answer ≡ Err world.NoMemory) (λ failed. failed_before done answer is failed) (λ never. absurd never) h

pub answer_left : {A G : Type 0} (done : Result A StepFault) (answer : Result (Vec Shown G) WorldFault) (P : Type 0) → IfErr done (λ why. P) → Faults done answer → IfErr answer (λ fault. P)
answer_left done (Ok s) P h is = tt
answer_left (Ok x) (Err f) P h is = absurd is
answer_left (Err why) (Err f) P h is = h
