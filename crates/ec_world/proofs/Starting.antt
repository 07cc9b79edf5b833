-- Starts of a server.
use Rattle.std.proofs.Common.{◌≡◌, ◌+◌, ℕ, Bool, true, false, List, [], ◌∷◌, ◌++◌, Option, None, Some, Result, Ok, Err, refl, sym, ap, subst, ◌∙◌}
use Rattle.std.specs.Prelude.{IfErr, IsErrAnd}
use Rattle.ec_base.specs.declared.counter.Counter.{Counter}
use Rattle.ec_disk.specs.Disk.{View}
use Rattle.ec_durable.specs.Durable.{step}
use Rattle.ec_durable.specs.declared.state.Durable.{Durable}
use Rattle.ec_durable.specs.declared.record.Record.{Record}
use Rattle.ec_durable.specs.declared.record.Record.TheVariants as record_of
use Rattle.ec_protocol.specs.Server.{Serving, start}
use Rattle.ec_protocol.specs.declared.server.Server.{Server as State}
use Rattle.ec_history.specs.declared.shown.Shown.{Shown}
use Rattle.ec_history.specs.declared.shown.Shown.TheVariants as show
use Rattle.ec_protocol.specs.World.{Fate, runs, Moving, moving, fails, with_world, show_line, show_noted, send_all, come_up, restarted, restart, on_disk}
use Rattle.ec_protocol.specs.declared.server.Served.{Served}
use Rattle.ec_protocol.specs.declared.world.Noted.{Noted}
use Rattle.ec_protocol.specs.declared.world.Noted.TheVariants as noted_as
use Rattle.ec_protocol.specs.declared.world.World.{World as Moved}
use Rattle.ec_protocol.specs.declared.world.WorldFault.TheVariants as fault
use Rattle.ec_server.specs.Servers.{standing}
use Rattle.ec_server.specs.declared.server.Server.{Server}
use Rattle.ec_store.specs.Store.{view_of as state_of}
use Rattle.ec_wire.specs.declared.msg.Msg.{Msg}
use Rattle.ec_world.proofs.Finish.{chosen_by, fate_of, told_fate, came_fate, sends_keep, IsTaken, left_behind, some_left, either_behind, done_leaves}
use Rattle.ec_world.proofs.Fresh.{fresh}
use Rattle.ec_marking.specs.KeptRuns.{LeavesEither, StopsAt}
use Rattle.ec_world.specs.Cutting.{LeavesBy}
use Rattle.ec_marking.specs.Keeping.{IsDone, InDoubt, LeavesSome, HasStoppedIn}
use Rattle.ec_marking.specs.Marks.{IsMark, MarkOf}
use Rattle.ec_world.specs.Serving.{serves, with_durable, left_in, CameUp, StopsUp, Finishes}
use Rattle.ec_marking.specs.Signs.{sign_of}
use Rattle.ec_world.specs.StepEnds.{IsLeft, under}
use Rattle.ec_world.specs.Worlds.{view_of, server_of}
use Rattle.ec_clerk.specs.declared.running.fault.StepFault.{StepFault}
use Rattle.ec_clerk.specs.declared.running.fault.StepFault.TheVariants as step_fault
use Rattle.ec_marking.specs.declared.keeping.Came.{Came}
use Rattle.ec_marking.specs.declared.keeping.Came.TheVariants as came
use Rattle.ec_marking.specs.declared.marks.Mark.{Mark}
use Rattle.ec_world.specs.declared.world.World.{World}
use Rattle.ec_marking.proofs.Started.{start_records}

-- A restart, as the code takes it: the server, the state and the records first, then what is shown and sent.

by_spent : Fate → Serving → Moved → Moving
by_spent fate t w = elim t.spent [ Some n ↦ fails (fault.Spent n) w | None ↦ restarted fate t w ]

unspent_is : (fate : Fate) (t : Serving) (w : Moved) → t.spent ≡ None → by_spent fate t w ≡ restarted fate t w
unfolding by_spent
unspent_is fate t w none = ap (λ (o : Option Counter). elim o [ Some n ↦ fails (fault.Spent n) w | None ↦ restarted fate t w ]) none

-- the world that comes up, before it shows anything
abbrev pub come_to : State → List Record → Moved → Moved
come_to s rs w = record w { server = Some s; durable = s.durable; unshown = None; records = rs }

comes_up : (x : Option Noted) (t : Serving) (w : Moved)
    → with_world (come_up t) (show_line show.Started (show_noted x (moving w))) ≡ with_world (send_all t.sent) (show_line show.Started (show_noted x (moving (come_to t.server (w.records ++ record_of.Epoch t.server.durable.epoch ∷ []) w))))
comes_up None t w = refl
comes_up (Some (noted_as.Durable c ns)) t w = refl
comes_up (Some (noted_as.Ended c b)) t w = refl

restarts_by : (t : Serving) (s : State) (sent : List (ℕ × Msg)) (rec : Option Record) (rs : List Record) (w : Moved) → t ≡ record { server = s; sent = sent; rec = rec; spent = None } → rs ≡ w.records ++ record_of.Epoch s.durable.epoch ∷ []
    → by_spent runs t w ≡ with_world (send_all sent) (show_line show.Started (show_noted w.unshown (moving (come_to s rs w))))
unfolding by_spent
restarts_by t s sent rec rs w is more =
    ap (λ (x : Serving). by_spent runs x w) is
    ∙ comes_up w.unshown (record { server = s; sent = sent; rec = rec; spent = None }) w
    ∙ ap (λ (xs : List Record). with_world (send_all sent) (show_line show.Started (show_noted w.unshown (moving (come_to s xs w))))) (sym more)

-- the record of a start that is done
pub done_rec : (d : Durable) (s : State) (sent : List (ℕ × Msg)) (rec : Option Record) → start d ≡ record { server = s; sent = sent; rec = rec; spent = None } → rec ≡ Some (record_of.Epoch s.durable.epoch)
done_rec d s sent rec is = go (start d) is (start_records d (ap (λ (x : Serving). x.spent) is))
  where
    go : (t : Serving) → t ≡ record { server = s; sent = sent; rec = rec; spent = None } → t.rec ≡ Some (record_of.Epoch t.server.durable.epoch) → rec ≡ Some (record_of.Epoch s.durable.epoch)
    go t is has = sym (ap (λ (x : Serving). x.rec) is) ∙ has ∙ ap (λ (x : Serving). Some (record_of.Epoch x.server.durable.epoch)) is

pub start_shows : (tells : Type 0) (d : Durable) (w : World) (now : View) (v : Server) (served' : Served) (m : Mark) → w.piece.items ≡ [] → IsDone tells (start d) d w.records.items v w.store now served' (Some m)
    → restart runs (serves None d (view_of w)) ≡ with_world (send_all served'.sent) (show_line show.Started (show_noted w.unshown (with_world (λ x. record x { unshown = None }) (under (record w { server = Some v; records = m.records })))))
unfolding by_spent
start_shows tells d w now v served' m none h =
    restarts_by (start d) s served'.sent served'.rec m.records.items (serves None d (view_of w)) h.does is_more.records_are
    ∙ ap (λ (x : Moving). with_world (send_all served'.sent) (show_line show.Started (show_noted w.unshown (with_world (λ y. record y { unshown = None }) x)))) (sym (fresh up none))
  where
    s : State
    s = standing (state_of w.store) v

    up : World
    up = record w { server = Some v; records = m.records }

    is_more : IsMark m (record_of.Epoch (state_of w.store).epoch) d w.records.items
    is_more = subst (λ (o : Option Record). MarkOf (Some m) o d w.records.items) (done_rec d s served'.sent served'.rec h.does) h.mark_is

-- A stop in a restart.

some_record : (r q : Record) → ◌≡◌ {A = Option Record} (Some r) (Some q) → r ≡ q
some_record r q e = cc

stops_up : (there : Bool) (r : Record) (t : Serving) (w : Moved) → r ≡ record_of.Epoch t.server.durable.epoch → restarted (fate_of there) t w ≡ show_line show.Stopped (moving (left_in there r w))
unfolding fate_of
stops_up false r t w is = refl
stops_up true r t w is = ap (λ (q : Record). show_line show.Stopped (moving (on_disk q w))) (sym is)

pub stop_restarts : (tells : Type 0) (d : Durable) (armed : Option ℕ) (now : View) (r : Record) (there : Bool) (old cut new : World) → old.server ≡ None → InDoubt tells (start d) d now r → (tells → StopsAt armed d (start d).server.durable now)
    → (tells → view_of cut ≡ left_in there r (with_durable d (view_of old))) → cut.piece.items ≡ [] → under new ≡ show_line show.Stopped (under cut)
    → (tells → LeavesBy old.choice d (start d).server.durable now there) → Finishes tells (Unit {0}) old.choice armed (view_of old).shown (λ fate. restart fate (serves None d (view_of old))) (under new)
unfolding by_spent
stop_restarts tells d armed now r there old cut new none h at left fresh_piece shown back = (
  fate_of there,
  came_fate there,
  λ told. go (told_fate there tells told),
  λ told. chosen_by old.choice d (start d).server.durable now there armed (view_of old).shown (view_of new).shown (lines told) (h.synced told) (back told) (at told),
)
  where
    t : Serving
    t = start d

    u : Moved
    u = serves None d (view_of old)

    is_epoch : r ≡ record_of.Epoch t.server.durable.epoch
    is_epoch = some_record r (record_of.Epoch t.server.durable.epoch) (sym h.rec_is ∙ start_records d h.unspent)

    same : with_durable d (view_of old) ≡ u
    same = ap (λ (o : Option Server). record (view_of old) { server = server_of (state_of old.store) o; durable = d }) none

    go : tells → restart (fate_of there) u ≡ under new
    go told =
        unspent_is (fate_of there) t u h.unspent
        ∙ stops_up there r t u is_epoch
        ∙ ap (λ (x : Moved). show_line show.Stopped (moving x)) (sym (left told ∙ ap (left_in there r) same))
        ∙ ap (λ (x : Moving). show_line show.Stopped x) (sym (fresh cut fresh_piece))
        ∙ sym shown

    cut_lines : (there : Bool) (w : Moved) → (left_in there r w).shown ≡ w.shown
    cut_lines false w = refl
    cut_lines true w = refl

    lines : tells → (view_of new).shown ≡ (view_of old).shown ++ show.Stopped ∷ []
    lines told = ap (λ (m : Moving). m.world.shown) shown ∙ ap (λ (ls : List Shown). ls ++ show.Stopped ∷ []) (ap (λ (x : Moved). x.shown) (left told) ∙ cut_lines there (with_durable d (view_of old)))

-- What is left at a fault.

shown_up : (x : Option Noted) (v : Moved) (e : Durable) → v.durable ≡ e → IsTaken (show_line show.Started (show_noted x (moving v))) e
shown_up None v e is = record { fault = refl; durable = is }
shown_up (Some (noted_as.Durable c ns)) v e is = record { fault = refl; durable = is }
shown_up (Some (noted_as.Ended c b)) v e is = record { fault = refl; durable = is }

behind_up : (t : Serving) (u : Moved) → t.spent ≡ None → IsTaken (by_spent runs t u) t.server.durable
unfolding by_spent
behind_up t u none = subst (λ (m : Moving). IsTaken m t.server.durable) (sym (unspent_is runs t u none ∙ comes_up u.unshown t u)) (record { fault = up.fault; durable = sends_keep t.sent _ ∙ up.durable })
  where
    up : IsTaken (show_line show.Started (show_noted u.unshown (moving (come_to t.server (u.records ++ record_of.Epoch t.server.durable.epoch ∷ []) u)))) t.server.durable
    up = shown_up u.unshown (come_to t.server (u.records ++ record_of.Epoch t.server.durable.epoch ∷ []) u) t.server.durable refl

up_is : (d : Durable) (u : Moved) → u.durable ≡ d → (start d).spent ≡ None → IsTaken (restart runs u) (start d).server.durable
unfolding by_spent
up_is d u is none = subst (λ (x : Durable). IsTaken (by_spent runs (start x) u) (start d).server.durable) (sym is) (behind_up (start d) u none)

pub doubt_restarts : (tells : Type 0) (d : Durable) (before now : View) (r : Record) (u : Moved) (image : List ℕ) → u.durable ≡ d → InDoubt tells (start d) d before r → LeavesEither r d now → now.may_leave image → IsLeft d (restart runs u) image
doubt_restarts tells d before now r u image is h e left = left_behind d (start d).server.durable (restart runs u) image (up_is d u is h.unspent) (either_behind r d (start d).server.durable now image h.steps e left)

-- What came of a server's start.

pub done_restarts : (tells : Type 0) (d : Durable) (armed : Option ℕ) (w : World) (now : View) (x : Came (Server × Served)) (made : Server × Served) (mark : Option Mark) (m : Mark) (new : World) → x ≡ came.Done made mark → mark ≡ Some m → w.piece.items ≡ [] → CameUp tells d w now x
    → under new ≡ with_world (send_all made.1.sent) (show_line show.Started (show_noted w.unshown (with_world (λ y. record y { unshown = None }) (under (record w { server = Some made.0; records = m.records })))))
    → Finishes tells (HasStoppedIn x) w.choice armed (view_of w).shown (λ fate. restart fate (serves None d (view_of w))) (under new)
done_restarts tells d armed w now x made mark m new is some none h shown =
    let on : Option Mark → Came (Server × Served) = λ o. came.Done made o in
    let up : CameUp tells d w now (on (Some m)) = subst (λ (y : Came (Server × Served)). CameUp tells d w now y) (is ∙ ap on some) h in
    (runs, λ stop. subst (λ (y : Came (Server × Served)). HasStoppedIn y) is stop, λ told. start_shows tells d w now made.0 made.1 m none up ∙ sym shown, λ told. tt)

pub stopped_restarts : (tells : Type 0) (d : Durable) (armed : Option ℕ) (old cut new : World) (now : View) (x : Came (Server × Served)) (mark : Mark) (there : Bool) → x ≡ came.Stopped mark → old.server ≡ None → CameUp tells d old now x → StopsUp tells d armed now x
    → (tells → (r : Record) (c e : Durable) → mark.sign ≡ sign_of r → mark.records.items ≡ old.records.items ++ r ∷ [] → step r c ≡ Ok e → LeavesEither r c now → view_of cut ≡ left_in there r (with_durable c (view_of old)))
    → cut.piece.items ≡ [] → under new ≡ show_line show.Stopped (under cut)
    → (tells → (r : Record) (c e : Durable) → mark.sign ≡ sign_of r → step r c ≡ Ok e → LeavesBy old.choice c e now there)
    → Finishes tells (HasStoppedIn x) old.choice armed (view_of old).shown (λ fate. restart fate (serves None d (view_of old))) (under new)
stopped_restarts tells d armed old cut new now x mark there is none h at left fresh_piece shown back =
    let up : CameUp tells d old now (came.Stopped mark) = subst (λ (y : Came (Server × Served)). CameUp tells d old now y) is h in
    let doubt = up.1 in
    let stops : tells → StopsAt armed d (start d).server.durable now = subst (λ (y : Came (Server × Served)). StopsUp tells d armed now y) is at in
    let found : tells → view_of cut ≡ left_in there up.0 (with_durable d (view_of old)) = λ told. left told up.0 d (start d).server.durable up.2.sign_is up.2.records_are doubt.steps (doubt.leaves told) in
    subst (λ (y : Came (Server × Served)). Finishes tells (HasStoppedIn y) old.choice armed (view_of old).shown (λ fate. restart fate (serves None d (view_of old))) (under new)) (sym is)
    (stop_restarts tells d armed now up.0 there old cut new none doubt stops found fresh_piece shown (λ told. back told up.0 d (start d).server.durable up.2.sign_is doubt.steps))

pub err_is : {P Q : StepFault → Type 0} (res : Result (Unit {0}) StepFault) → IsErrAnd res P → ((f : StepFault) → P f → Q f) → IfErr res Q
err_is (Ok u) h by = absurd h
err_is (Err f) h by = by f h

pub done_left : (tells : Type 0) (d : Durable) (w : World) (now : View) (x : Came (Server × Served)) (made : Server × Served) (mark : Option Mark) (image : List ℕ) → x ≡ came.Done made mark → CameUp tells d w now x → tells → now.may_leave image
    → IsLeft d (restart runs (serves None d (view_of w))) image
done_left tells d w now x made mark image is h told left =
    let up : CameUp tells d w now (came.Done made mark) = subst (λ (y : Came (Server × Served)). CameUp tells d w now y) is h in
    some_left (start d) d (restart runs (serves None d (view_of w))) image (up_is d (serves None d (view_of w)) refl) (done_leaves tells (start d) d (record w { server = Some made.0 }) now made.1 mark up told image left)

pub stopped_left : (tells : Type 0) (d : Durable) (w : World) (before now : View) (x : Came (Server × Served)) (mark : Mark) (image : List ℕ) → x ≡ came.Stopped mark → (tells → (r : Record) (c : Durable) → LeavesEither r c before → LeavesEither r c now) → CameUp tells d w before x → tells → now.may_leave image
    → IsLeft d (restart runs (serves None d (view_of w))) image
stopped_left tells d w before now x mark image is same h told left =
    let up : CameUp tells d w before (came.Stopped mark) = subst (λ (y : Came (Server × Served)). CameUp tells d w before y) is h in
    doubt_restarts tells d before now up.0 (serves None d (view_of w)) image refl up.1 (same told up.0 d (up.1.leaves told)) left

pub failed_left : (tells : Type 0) (d : Durable) (w : World) (now : View) (x : Came (Server × Served)) (image : List ℕ) → x ≡ came.DiskFailed → CameUp tells d w now x → tells → now.may_leave image → IsLeft d (restart runs (serves None d (view_of w))) image
failed_left tells d w now x image is h told left =
    let up : CameUp tells d w now came.DiskFailed = subst (λ (y : Came (Server × Served)). CameUp tells d w now y) is h in
    doubt_restarts tells d now now up.0 (serves None d (view_of w)) image refl up.1 (up.1.leaves told) left

pub wants_left : (tells : Type 0) (d : Durable) (w : World) (now : View) (x : Came (Server × Served)) (image : List ℕ) → x ≡ came.NoMemory → CameUp tells d w now x → tells → now.may_leave image → IsLeft d (restart runs (serves None d (view_of w))) image
wants_left tells d w now x image is h told left =
    let some : tells → LeavesSome (start d) d now = subst (λ (y : Came (Server × Served)). CameUp tells d w now y) is h in
    some_left (start d) d (restart runs (serves None d (view_of w))) image (up_is d (serves None d (view_of w)) refl) (some told image left)
