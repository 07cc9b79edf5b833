-- A world goes on behind what came of its server's step.
use Rattle.std.proofs.Common.{◌≡◌, ◌⊎◌, ◌<◌, ◌≤◌, inl, inr, ⊎_elim, ℕ, Bool, true, false, List, [], ◌∷◌, ◌++◌, ◌+◌, Option, None, Some, Result, Ok, Err, refl, sym, ap, subst, ◌∙◌, arith}
use Rattle.std.specs.Prelude.{OnOk, IfOk, IfErr}
use Rattle.ec_base.specs.declared.counter.Counter.{Counter}
use Rattle.std.proofs.lemmas.Bool.Decides.{leb_tells}
use Rattle.ec_disk.specs.Choices.{cut}
use Rattle.ec_disk.specs.Counting.{counted_both}
use Rattle.ec_disk.specs.Disk.{View, Counts}
use Rattle.ec_disk.specs.Effects.{Counted}
use Rattle.ec_disk.specs.declared.disk.Choice.{Choice}
use Rattle.ec_disk.specs.declared.disk.Choice.TheVariants as choice
use Rattle.ec_durable.specs.Durable.{step}
use Rattle.ec_durable.specs.declared.state.Durable.{Durable}
use Rattle.ec_durable.specs.declared.record.Record.{Record}
use Rattle.ec_history.specs.declared.shown.Shown.{Shown}
use Rattle.ec_history.specs.declared.shown.Shown.TheVariants as show
use Rattle.ec_wire.specs.declared.msg.Msg.{Msg}
use Rattle.ec_stands.specs.Stands.{StandsFor}
use Rattle.ec_protocol.specs.Server.{Serving}
use Rattle.ec_protocol.specs.declared.server.Served.{Served}
use Rattle.ec_protocol.specs.declared.server.Server.{Server as State}
use Rattle.ec_protocol.specs.declared.world.Noted.{Noted}
use Rattle.ec_protocol.specs.declared.world.Noted.TheVariants as noted_as
use Rattle.ec_protocol.specs.declared.world.World.{World as Moved}
use Rattle.ec_protocol.specs.declared.world.WorldFault.TheVariants as fault
use Rattle.ec_protocol.specs.World.{Fate, runs, stops_without, stops_with, Moving, moving, fails, with_world, show_line, show_noted, noted, send, send_all, go_on, committed, served, served_record, on_disk, stop}
use Rattle.ec_server.specs.Servers.{standing}
use Rattle.ec_server.specs.declared.server.Server.{Server}
use Rattle.ec_store.specs.Store.{IsHeld, view_of as state_of}
use Rattle.ec_marking.specs.KeptRuns.{LeavesEither, Halfway, StopsAt}
use Rattle.ec_world.specs.Cutting.{LeavesBy}
use Rattle.ec_clerk.specs.OfRunning.Faults.{of_step}
use Rattle.ec_marking.specs.Keeping.{IsDone, InDoubt, LeavesSome, HasStoppedIn, IsStop, RunsIn, StopsSo}
use Rattle.ec_marking.specs.Held.{held_stands}
use Rattle.ec_world.specs.Laws.{in_step_keeps}
use Rattle.ec_marking.specs.Marks.{IsMark, gone}
use Rattle.ec_world.specs.Serving.{serves, IsDoneBy, CameTo, FateIn, Finishes, ArmsBehind, Breaks, FailsSince, stopped_in, with_durable}
use Rattle.ec_world.specs.Steps.{IsShown, IsTurn, MayLack, MayLeave}
use Rattle.ec_world.specs.StepEnds.{IsTold, Fated, IsLeft, as_before, as_behind, under}
use Rattle.ec_world.specs.Worlds.{view_of, server_of, ServerStands, IsInStep, KeepsServer}
use Rattle.ec_clerk.specs.declared.running.fault.StepFault.{StepFault}
use Rattle.ec_clerk.specs.declared.running.fault.StepFault.TheVariants as step_fault
use Rattle.ec_marking.specs.declared.keeping.Came.{Came}
use Rattle.ec_marking.specs.declared.keeping.Came.TheVariants as came
use Rattle.ec_marking.specs.declared.marks.Mark.{Mark}
use Rattle.ec_world.specs.declared.world.World.{World}
use Rattle.ec_world.proofs.Arms.{fate_is}
use Rattle.ec_marking.proofs.Outcomes.{same_ok}
use Rattle.ec_world.proofs.Fresh.{fresh}
use Rattle.ec_world.proofs.Served.{goes_on}

-- A step that is done.

-- the world that has the server and the store already
with_server : World → Option State → Moved
with_server w s = record (view_of w) { server = s }

pub done_shows : (tells : Type 0) (done : Serving) (d : Durable) (s : Option State) (w : World) (now : View) (served' : Served) (mark : Option Mark) → w.piece.items ≡ [] → IsDoneBy tells done d w.records.items w.server w.store now served' mark
    → served runs done (serves s d (view_of w)) ≡ with_world (send_all served'.sent) (gone mark (under w))
unfolding with_server
done_shows tells done d s w now served' mark none h = go w.server refl h
  where
    on : Moving → Moving
    on m = with_world (send_all served'.sent) (gone mark m)

    go : (o : Option Server) → w.server ≡ o → IsDoneBy tells done d w.records.items o w.store now served' mark → served runs done (serves s d (view_of w)) ≡ with_world (send_all served'.sent) (gone mark (under w))
    go None is h = absurd h
    go (Some v) is h =
        goes_on done (standing (state_of w.store) v) served'.sent served'.rec mark (serves s d (view_of w)) h.does h.mark_is
        ∙ ap (λ (o : Option State). on (moving (with_server w o))) (ap (server_of (state_of w.store)) (sym is))
        ∙ ap on (sym (fresh w none))

pub done_in_step : (tells : Type 0) (done : Serving) (d : Durable) (old new : World) (now : View) (served' : Served) (mark : Option Mark) → ServerStands (state_of old.store) old.server → IsDoneBy tells done d old.records.items old.server old.store now served' mark → KeepsServer old new → IsInStep tells now new
done_in_step tells done d old new now served' mark stands h same = in_step_keeps tells now old new same (record { server = stands; disk = go old.server h })
  where
    go : (o : Option Server) → IsDoneBy tells done d old.records.items o old.store now served' mark → tells → IsHeld now old.store
    go None h = absurd h
    go (Some v) h = h.held

done_some : (tells : Type 0) (done : Serving) (d : Durable) (before : List Record) (o : Option Server) (w : World) (now : View) (served' : Served) (mark : Option Mark) → IsDoneBy tells done d before o w.store now served' mark → tells → LeavesSome done d now
done_some tells done d before None w now served' mark h told image left = absurd h
done_some tells done d before (Some v) w now served' mark h told image left =
    inr (ap (λ (t : Serving). t.spent) h.does, subst (λ (x : Durable). StandsFor image x) (sym (ap (λ (t : Serving). t.server.durable) h.does)) (held_stands now w.store (h.held told) image left))

-- Stops.

unfoldable pub fate_of : Bool → Fate
fate_of false = stops_without
fate_of true = stops_with

pub served_commits : (fate : Fate) (r : Record) (done : Serving) (u : Moved) → done.spent ≡ None → done.rec ≡ Some r → served fate done u ≡ committed fate r done u
served_commits fate r done u none is =
    ap (λ (o : Option Counter). elim o [ Some n ↦ fails (fault.Spent n) u | None ↦ served_record fate done.rec done u ]) none
    ∙ ap (λ (o : Option Record). served_record fate o done u) is

stop_shows : (there : Bool) (r : Record) (done : Serving) (d : Durable) (s : Option State) (w : Moved) → committed (fate_of there) r done (serves s d w) ≡ show_line show.Stopped (moving (stopped_in there r (with_durable d w)))
unfolding fate_of
stop_shows false r done d s w = refl
stop_shows true r done d s w = refl

pub told_fate : (there : Bool) (tells : Type 0) → IsTold (fate_of there) tells → tells
unfolding fate_of
told_fate false tells h = h
told_fate true tells h = h

pub came_fate : (there : Bool) → FateIn (fate_of there) (Unit {0})
unfolding fate_of
came_fate false = tt
came_fate true = tt

true_apart : true ≡ false → ⊥
true_apart e = cc

-- A record that is left was there.
was_there : (ch : Choice) (d e : Durable) (now : View) (turn : ℕ) → LeavesBy ch d e now true → (h : Halfway turn d e now) → h.most ≤ turn + 1
was_there ch d e now turn back h =
    ⊎_elim (λ first. absurd (true_apart (back.taken_back (h.early first.1 (cut ch now.gives now.synced) back.left)))) (λ last. omega (arith, last.1)) (leb_tells (turn + 2) h.most)

-- One that `New` doesn't leave wasn't.
was_not : (d e : Durable) (now : View) (turn : ℕ) → LeavesBy choice.New d e now false → (h : Halfway turn d e now) → turn + 2 ≤ h.most
was_not d e now turn back h = ⊎_elim (λ first. first.1) (λ last. absurd (true_apart (sym (back.kept (h.late (omega (arith, last.1))))))) (leb_tells (turn + 2) h.most)

in_turn : (May : ℕ → ℕ → Type 0) (turn : ℕ) (d e : Durable) (now : View) (h : Halfway turn d e now) → May turn h.most → IsTurn turn May
in_turn May turn d e now h may = record { most = h.most; usual = h.usual; within = h.within; may = may }

-- the choice of the world allows it, and the turn in which the stop came
pub chosen_by : (ch : Choice) (d e : Durable) (now : View) (there : Bool) (armed : Option ℕ) (before after : List Shown) → after ≡ before ++ show.Stopped ∷ [] → StandsFor now.synced d → LeavesBy ch d e now there → StopsAt armed d e now
    → IsShown (fate_of there) ch armed before after
unfolding fate_of
chosen_by choice.Old d e now false armed before after is synced back at = (is, λ turn due. in_turn (MayLack choice.Old) turn d e now (at turn due) tt)
chosen_by choice.Old d e now true armed before after is synced back at = absurd (true_apart (back.taken_back synced))
chosen_by choice.New d e now false armed before after is synced back at = (is, λ turn due. in_turn (MayLack choice.New) turn d e now (at turn due) (was_not d e now turn back (at turn due)))
chosen_by choice.New d e now true armed before after is synced back at = (is, λ turn due. in_turn (MayLeave choice.New) turn d e now (at turn due) (was_there choice.New d e now turn back (at turn due)))
chosen_by choice.Torn d e now false armed before after is synced back at = (is, λ turn due. in_turn (MayLack choice.Torn) turn d e now (at turn due) tt)
chosen_by choice.Torn d e now true armed before after is synced back at = (is, λ turn due. in_turn (MayLeave choice.Torn) turn d e now (at turn due) (was_there choice.Torn d e now turn back (at turn due)))

stop_line : (there : Bool) (r : Record) (w : Moved) → (show_line show.Stopped (moving (stopped_in there r w))).world.shown ≡ w.shown ++ show.Stopped ∷ []
stop_line false r w = refl
stop_line true r w = refl

pub stop_finishes : (tells : Type 0) (done : Serving) (d : Durable) (s : Option State) (armed : Option ℕ) (now : View) (r : Record) (there : Bool) (old new : World) → InDoubt tells done d now r → (tells → StopsAt armed d done.server.durable now)
    → (tells → show_line show.Stopped (moving (stopped_in there r (with_durable d (view_of old)))) ≡ under new) → (tells → LeavesBy old.choice d done.server.durable now there)
    → Finishes tells (Unit {0}) old.choice armed (view_of old).shown (λ fate. served fate done (serves s d (view_of old))) (under new)
stop_finishes tells done d s armed now r there old new h at shows back = (
  fate_of there,
  came_fate there,
  λ told. served_commits (fate_of there) r done (serves s d (view_of old)) h.unspent h.rec_is ∙ stop_shows there r done d s (view_of old) ∙ shows (told_fate there tells told),
  λ told.
      chosen_by old.choice d done.server.durable now there armed (view_of old).shown (view_of new).shown (ap (λ (m : Moving). m.world.shown) (sym (shows told)) ∙ stop_line there r (with_durable d (view_of old)))
      (h.synced told) (back told) (at told),
)

-- What is left at a fault.

pub sends_keep : (sent : List (ℕ × Msg)) (w : Moved) → (send_all sent w).durable ≡ w.durable
sends_keep [] w = refl
sends_keep (s ∷ sent) w = sends_keep sent (send s.0 s.1 w)

-- the machine's step, which spends no counter, isn't refused, and this is the state behind it
pub record IsTaken (m : Moving) (e : Durable) : Type 0 where
  pub fault : m.fault ≡ None
  pub durable : m.world.durable ≡ e

pub behind : (done : Serving) (u : Moved) → done.spent ≡ None → IsTaken (served runs done u) done.server.durable
behind done u none = subst (λ (m : Moving). IsTaken m done.server.durable) (sym by) (go done.rec)
  where
    by : served runs done u ≡ served_record runs done.rec done u
    by = ap (λ (o : Option Counter). elim o [ Some n ↦ fails (fault.Spent n) u | None ↦ served_record runs done.rec done u ]) none

    shows : (o : Option Noted) (v : Moved) → (show_noted o (moving v)).fault ≡ None
    shows None v = refl
    shows (Some (noted_as.Durable c ns)) v = refl
    shows (Some (noted_as.Ended c b)) v = refl

    go : (rec : Option Record) → IsTaken (served_record runs rec done u) done.server.durable
    go None = record { fault = refl; durable = sends_keep done.sent _ }
    go (Some r) = record { fault = shows (noted u.durable r) (record u { records = u.records ++ r ∷ [] }); durable = sends_keep done.sent _ }

pub left_behind : (d e : Durable) (m : Moving) (image : List ℕ) → IsTaken m e → StandsFor image d ⊎ StandsFor image e → IsLeft d m image
left_behind d e m image at (inl h) = as_before h
left_behind d e m image at (inr h) = as_behind at.fault (subst (λ (x : Durable). StandsFor image x) (sym at.durable) h)

-- what stands for the state behind the machine's step, where that spends no counter
pub some_left : (done : Serving) (d : Durable) (m : Moving) (image : List ℕ) → (done.spent ≡ None → IsTaken m done.server.durable) → StandsFor image d ⊎ ((done.spent ≡ None) × StandsFor image done.server.durable) → IsLeft d m image
some_left done d m image at (inl h) = as_before h
some_left done d m image at (inr h) = left_behind d done.server.durable m image (at h.0) (inr h.1)

pub either_behind : (r : Record) (d e : Durable) (now : View) (image : List ℕ) → step r d ≡ Ok e → LeavesEither r d now → now.may_leave image → StandsFor image d ⊎ StandsFor image e
either_behind r d e now image is h left = ⊎_elim (λ x. inl x) (λ x. inr (subst (λ (y : Durable). StandsFor image y) (same_ok x.0 e (sym x.1 ∙ is)) x.2)) (h image left)

-- a fault behind a record that may be there
pub doubt_leaves : (tells : Type 0) (done : Serving) (d : Durable) (before now : View) (r : Record) (u : Moved) (image : List ℕ) → InDoubt tells done d before r → LeavesEither r d now → now.may_leave image → IsLeft d (served runs done u) image
doubt_leaves tells done d before now r u image h e left = left_behind d done.server.durable (served runs done u) image (behind done u h.unspent) (either_behind r d done.server.durable now image h.steps e left)

pub done_leaves : (tells : Type 0) (done : Serving) (d : Durable) (w : World) (now : View) (served' : Served) (mark : Option Mark) → IsDoneBy tells done d w.records.items w.server w.store now served' mark → tells → LeavesSome done d now
done_leaves tells done d w now served' mark h told = done_some tells done d w.records.items w.server w now served' mark h told

-- Counts.

pub finished : {T : Type 0} (x : Came T) (tells F G : Type 0) (before mid : Durable) (a b c : Counts) (ch : Choice) (lines : List Shown) (steps others : Fate → Moving) (m : Moving) → Finishes tells (HasStoppedIn x) ch a.armed lines steps m → ((fate : Fate) → others fate ≡ steps fate)
    → Counted a b F (HasStoppedIn x) → Counted b c G ⊥ → RunsIn x before mid a b → ArmsBehind x mid m.world.durable b.armed c.armed → Fated tells before lines a c ch others m
finished x tells F G before mid a b c ch lines steps others m h same one two ran arms = (h.0, fate_is x h.0 F G before mid m.world.durable a b c h.1 one two ran arms, λ told. same h.0 ∙ h.2 told, h.3)

-- the disk failed in the step, or behind it
pub counts_on : (T : Type 0) (x : Came T) (done : Result (Unit {0}) StepFault) (a b c : Counts) → Counted a b (◌≡◌ {A = Result (Came T) Counter} (Ok x) (Ok came.DiskFailed)) (IsStop (Ok x)) → Counted b c (FailsSince x done) ⊥ → Counted a c (done ≡ Err step_fault.DiskFailed) ⊥
counts_on T (came.Done y mark) done a b c one two = counted_both a b c _ _ _ _ _ _ one two (λ h. inr h) (λ x. absurd x)
counts_on T (came.Stopped mark) done a b c one two = counted_both a b c _ _ _ _ _ _ one two (λ h. inr h) (λ x. absurd x)
counts_on T came.DiskFailed done a b c one two = counted_both a b c _ _ _ _ _ _ one two (λ h. inl refl) (λ x. absurd x)
counts_on T came.NoMemory done a b c one two = counted_both a b c _ _ _ _ _ _ one two (λ h. inr h) (λ x. absurd x)

-- What came, as a value of which the case is known.

pub done_finishes : (tells : Type 0) (done : Serving) (d : Durable) (s : Option State) (armed : Option ℕ) (w new : World) (now : View) (x : Came Served) (served' : Served) (mark : Option Mark) → x ≡ came.Done served' mark → w.piece.items ≡ [] → CameTo tells done d w now x
    → under new ≡ with_world (send_all served'.sent) (gone mark (under w)) → Finishes tells (HasStoppedIn x) w.choice armed (view_of w).shown (λ fate. served fate done (serves s d (view_of w))) (under new)
done_finishes tells done d s armed w new now x served' mark is none h shown =
    (runs, λ stop. subst (λ (y : Came Served). HasStoppedIn y) is stop, λ told. done_shows tells done d s w now served' mark none (subst (CameTo tells done d w now) is h) ∙ sym shown, λ told. tt)

pub done_steps : (tells : Type 0) (done : Serving) (d : Durable) (old new : World) (now : View) (x : Came Served) (served' : Served) (mark : Option Mark) → x ≡ came.Done served' mark → ServerStands (state_of old.store) old.server → CameTo tells done d old now x
    → KeepsServer old new → IsInStep tells now new
done_steps tells done d old new now x served' mark is stands h same = done_in_step tells done d old new now served' mark stands (subst (CameTo tells done d old now) is h) same

pub done_left : (tells : Type 0) (done : Serving) (d : Durable) (s : Option State) (w : World) (now : View) (x : Came Served) (served' : Served) (mark : Option Mark) (image : List ℕ) → x ≡ came.Done served' mark → CameTo tells done d w now x → tells → now.may_leave image
    → IsLeft d (served runs done (serves s d (view_of w))) image
done_left tells done d s w now x served' mark image is h told left =
    some_left done d (served runs done (serves s d (view_of w))) image (behind done (serves s d (view_of w))) (done_leaves tells done d w now served' mark (subst (CameTo tells done d w now) is h) told image left)

pub stopped_finishes : (tells : Type 0) (done : Serving) (d : Durable) (s : Option State) (armed : Option ℕ) (w new : World) (now : View) (x : Came Served) (mark : Mark) → x ≡ came.Stopped mark → CameTo tells done d w now x → StopsSo x tells armed d done.server.durable now
    → ((r : Record) (c e : Durable) → IsMark mark r c w.records.items → step r c ≡ Ok e → (tells → LeavesEither r c now) → (there : Bool) × (tells → show_line show.Stopped (moving (stopped_in there r (with_durable c (view_of w)))) ≡ under new) × (tells → LeavesBy w.choice c e now there))
    → Finishes tells (HasStoppedIn x) w.choice armed (view_of w).shown (λ fate. served fate done (serves s d (view_of w))) (under new)
stopped_finishes tells done d s armed w new now x mark is h at shows =
    let came_to : CameTo tells done d w now (came.Stopped mark) = subst (CameTo tells done d w now) is h in
    let doubt = came_to.1 in
    let stops : tells → StopsAt armed d done.server.durable now = subst (λ (y : Came Served). StopsSo y tells armed d done.server.durable now) is at in
    let found = shows came_to.0 d done.server.durable came_to.2 doubt.steps doubt.leaves in
    subst (λ (y : Came Served). Finishes tells (HasStoppedIn y) w.choice armed (view_of w).shown (λ fate. served fate done (serves s d (view_of w))) (under new)) (sym is) (stop_finishes tells done d s armed now came_to.0 found.0 w new doubt stops found.1 found.2)

pub stopped_left : (tells : Type 0) (done : Serving) (d : Durable) (s : Option State) (w : World) (before now : View) (x : Came Served) (mark : Mark) (image : List ℕ) → x ≡ came.Stopped mark
    → (tells → (r : Record) (c : Durable) → LeavesEither r c before → LeavesEither r c now) → CameTo tells done d w before x → tells → now.may_leave image → IsLeft d (served runs done (serves s d (view_of w))) image
stopped_left tells done d s w before now x mark image is same h told left =
    let came_to : CameTo tells done d w before (came.Stopped mark) = subst (CameTo tells done d w before) is h in
    doubt_leaves tells done d before now came_to.0 (serves s d (view_of w)) image came_to.1 (same told came_to.0 d (came_to.1.leaves told)) left

pub failed_left : (tells : Type 0) (done : Serving) (d : Durable) (s : Option State) (w : World) (now : View) (x : Came Served) (image : List ℕ) → x ≡ came.DiskFailed → CameTo tells done d w now x → tells → now.may_leave image → IsLeft d (served runs done (serves s d (view_of w))) image
failed_left tells done d s w now x image is h told left =
    let came_to : CameTo tells done d w now came.DiskFailed = subst (CameTo tells done d w now) is h in
    doubt_leaves tells done d now now came_to.0 (serves s d (view_of w)) image came_to.1 (came_to.1.leaves told) left

pub wants_left : (tells : Type 0) (done : Serving) (d : Durable) (s : Option State) (w : World) (now : View) (x : Came Served) (image : List ℕ) → x ≡ came.NoMemory → CameTo tells done d w now x → tells → now.may_leave image → IsLeft d (served runs done (serves s d (view_of w))) image
wants_left tells done d s w now x image is h told left =
    let some : tells → LeavesSome done d now = subst (CameTo tells done d w now) is h in
    some_left done d (served runs done (serves s d (view_of w))) image (behind done (serves s d (view_of w))) (some told image left)

pub on_ok : {P Q : Type 0} (res : Result (Unit {0}) StepFault) → OnOk res P → (P → Q) → OnOk res Q
on_ok (Ok u) h to = to h
on_ok (Err f) h to = tt

pub on_both : {P Q R : Type 0} (res : Result (Unit {0}) StepFault) → OnOk res P → OnOk res Q → (P → Q → R) → OnOk res R
on_both (Ok u) p q to = to p q
on_both (Err f) p q to = tt

pub if_err : {P Q : StepFault → Type 0} (res : Result (Unit {0}) StepFault) → IfErr res P → ((f : StepFault) → P f → Q f) → IfErr res Q
if_err (Ok u) h to = tt
if_err (Err f) h to = to f h
