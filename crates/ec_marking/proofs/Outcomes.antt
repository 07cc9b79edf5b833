-- What came of a server's step over a keeper that marks its records.
use Rattle.std.proofs.Common.{◌≡◌, ◌⊎◌, ◌<◌, ◌≤◌, inl, inr, ⊎_elim, ℕ, Bool, true, false, List, [], length, Option, None, Some, Result, Ok, Err, refl, sym, ap, subst, ◌∙◌, arith}
use Rattle.std.specs.Prelude.{IfOk, IfErr}
use Rattle.std.proofs.lemmas.Bool.Decides.{leb_tells}
use Rattle.ec_base.specs.Outside.{Rose}
use Rattle.ec_base.specs.declared.counter.Counter.{Counter}
use Rattle.ec_disk.specs.Disk.{View, Counts}
use Rattle.ec_disk.specs.Effects.{LeavesOnly, Counted, Turned}
use Rattle.ec_durable.specs.Durable.{step}
use Rattle.ec_durable.specs.declared.state.Durable.{Durable}
use Rattle.ec_durable.specs.declared.record.Record.{Record}
use Rattle.ec_durable.specs.declared.record.RecordFault.{RecordFault}
use Rattle.ec_stands.specs.Stands.{StandsFor}
use Rattle.ec_protocol.specs.Server.{Serving}
use Rattle.ec_protocol.specs.declared.server.Served.{Served}
use Rattle.ec_protocol.specs.declared.server.Server.{Server as State}
use Rattle.ec_server.specs.Clerks.{Records}
use Rattle.ec_server.specs.Keepers.{Did, Hurts, SpendsNothing}
use Rattle.ec_server.specs.Servers.{Does, Unstarted, GoesDown}
use Rattle.ec_server.specs.Steps.{FaultLeaves}
use Rattle.ec_server.specs.declared.server.Server.{Server}
use Rattle.ec_server.specs.declared.fault.ServerFault.{ServerFault}
use Rattle.ec_server.specs.declared.fault.ServerFault.TheVariants as server
use Rattle.ec_store.specs.Store.{IsHeld, StandsForEither, StopsHalfway, view_of}
use Rattle.ec_store.specs.declared.store.Store.{Store}
use Rattle.ec_marking.specs.KeptRuns.{LeavesEither, HasRun, Halfway, StopsAt}
use Rattle.ec_marking.specs.Keeping.{IsDone, InDoubt, LeavesSome, CameOf, Unchanged, HasMark, Turns, IsStop, RunsIn, StopsSo}
use Rattle.ec_marking.proofs.Runs.{run_same}
use Rattle.ec_marking.specs.OfKeeper.Keeps.{Kept, Broke, Stops}
use Rattle.ec_marking.specs.declared.keeper.keeper.DiskKeeper.{DiskKeeper}
use Rattle.ec_codes.specs.Formats.{Format}
use Rattle.ec_durable.specs.Codes.{record_code}
use Rattle.ec_journal.specs.Journal.{need_of}
use Rattle.ec_journal.specs.OfLayout.Selected.{free_now}
use Rattle.ec_marking.specs.Held.{held_stands}
use Rattle.ec_marking.specs.Marking.{HasMarked, MayHaveMarked, IsUnmarked, HasStopped}
use Rattle.ec_marking.specs.declared.marking.Marking.{Marking}
use Rattle.ec_marking.specs.Marks.{RecordIsMarked as Marked, MarkOf}
use Rattle.ec_marking.specs.declared.keeping.Came.{Came}
use Rattle.ec_marking.specs.declared.keeping.Came.TheVariants as came
use Rattle.ec_marking.specs.declared.marks.Mark.{Mark}

-- What is known of the keeper's store, disk and mark behind a record that was committed.
pub record Committed (tells : Type 0) (old new : Store) (now : View) (mark : Option Mark) (before : List Record) (a b : Counts) (r : Record) : Type 0 where
  pub steps : step r (view_of old) ≡ Ok (view_of new)
  pub held : tells → IsHeld now new
  pub marked : Marked mark r (view_of old) before
  pub counted : Counted a b ⊥ ⊥
  pub ran : HasRun (view_of old) (view_of new) a b

-- What a stop in the turn that was due left, by the room for the record.
abbrev pub StopsFor : Option ℕ → Store → View → Record → Type 0
StopsFor armed old now r = (turn : ℕ) → armed ≡ Some turn → StopsHalfway (need_of (record_code.spell r)) (free_now old.selected) turn now r (view_of old)

-- Behind one that may be there: where the disk stopped, it's marked.
pub record Doubted (tells : Type 0) (old : Store) (now : View) (mark : Option Mark) (before : List Record) (a b : Counts) (stops : ℕ) (r : Record) : Type 0 where
  pub leaves : tells → LeavesEither r (view_of old) now
  pub synced : tells → StandsFor now.synced (view_of old)
  pub marked : ((stops ≡ 0) × Counted a b ⊥ ⊥) ⊎ (Marked mark r (view_of old) before × Counted a b ⊥ (Unit {0}) × (tells → StopsFor a.armed old now r))

-- Behind none.
pub record Same (tells : Type 0) (old new : Store) (now : View) (mark : Option Mark) (a b : Counts) : Type 0 where
  pub store : new ≡ old
  pub held : tells → IsHeld now new
  pub none : mark ≡ None
  pub counted : Counted a b ⊥ ⊥
  pub ran : HasRun (view_of old) (view_of new) a b

-- What a keeper's words mean.
pub record Means (K : Type 0) (did broke : K → Record → K → Type 0) (k l : K) (tells : Type 0) (old new : Store) (now : View) (mark : Option Mark) (before : List Record) (a b : Counts) (stops : ℕ) : Type 0 where
  pub committed : (r : Record) → did k r l → Committed tells old new now mark before a b r
  pub doubted : (r : Record) → broke k r l → Doubted tells old now mark before a b stops r
  pub same : l ≡ k → Same tells old new now mark a b

-- The machine's step takes its record from the state, where a fault may have left that record.
abbrev pub Steps : {K : Type 0} → ServerFault → Serving → Durable → K → K → Type 0
Steps server.DiskFailed done d k l = Records done.rec d done.server.durable
Steps server.DiskStopped done d k l = Records done.rec d done.server.durable
Steps server.NoMemory done d k l = (l ≡ k) ⊎ Records done.rec d done.server.durable
Steps (server.Spent n) done d k l = Unit {0}

abbrev pub SpendsIn : ServerFault → Serving → Type 0
SpendsIn (server.Spent n) done = done.spent ≡ Some n
SpendsIn _ done = Unit {0}

-- A step that is done.

marks : (K : Type 0) (did broke : K → Record → K → Type 0) (k l : K) (tells : Type 0) (old new : Store) (now : View) (mark : Option Mark) (before : List Record) (a b : Counts) (stops : ℕ)
    → Means K did broke k l tells old new now mark before a b stops → (rec : Option Record) → Did did rec k l → MarkOf mark rec (view_of old) before × (tells → IsHeld now new)
marks K did broke k l tells old new now mark before a b stops m None h = let s = m.same h in (s.none, s.held)
marks K did broke k l tells old new now mark before a b stops m (Some r) h = let s = m.committed r h in (s.marked, s.held)

pub done_is : (T : Type 0) (by : T → Server) (gives : T → Served) (K : Type 0) (did broke : K → Record → K → Type 0) (k l : K) (tells : Type 0) (old new : Store) (now : View) (mark : Option Mark) (before : List Record) (a b : Counts) (stops : ℕ) (done : Serving)
    → Means K did broke k l tells old new now mark before a b stops → (answer : Result T ServerFault)
    → IfOk answer (λ x. Does done (view_of new) (by x) (gives x)) → IfOk answer (λ x. Did did (gives x).rec k l) → IfOk answer (λ x. Records (gives x).rec (view_of old) (view_of new))
    → IfOk answer (λ x. IsDone tells done (view_of old) before (by x) new now (gives x) mark)
done_is T by gives K did broke k l tells old new now mark before a b stops done m (Ok x) does h r =
    let s = marks K did broke k l tells old new now mark before a b stops m (gives x).rec h in
    record { does = does; mark_is = s.0; record_of = r; held = s.1 }
done_is T by gives K did broke k l tells old new now mark before a b stops done m (Err f) does h r = tt

-- Faults.

-- what a fault leaves
abbrev pub Undone : ServerFault → Type 0 → Serving → Store → Store → View → Option Mark → List Record → Type 0
Undone (server.Spent n) tells done old new now mark before = Unchanged tells done n old new now
Undone server.DiskFailed tells done old new now mark before = (r : Record) × InDoubt tells done (view_of old) now r
Undone server.DiskStopped tells done old new now mark before = (r : Record) × InDoubt tells done (view_of old) now r × Marked mark r (view_of old) before
Undone server.NoMemory tells done old new now mark before = tells → LeavesSome done (view_of old) now

-- whatever a crash leaves of a held disk stands for the store's state
held_some : (tells : Type 0) (done : Serving) (d : Durable) (new : Store) (now : View) → (tells → IsHeld now new) → view_of new ≡ d → tells → LeavesSome done d now
held_some tells done d new now held same told image left = inl (subst (λ (x : Durable). StandsFor image x) same (held_stands now new (held told) image left))

pub same_ok : (d e : Durable) → ◌≡◌ {A = Result Durable RecordFault} (Ok d) (Ok e) → d ≡ e
same_ok d e is = cc

-- the state behind the record of the machine's step
pub is_behind : (done : Serving) (d e : Durable) (r : Record) → done.rec ≡ Some r → Records done.rec d done.server.durable → step r d ≡ Ok e → e ≡ done.server.durable
is_behind done d e r is steps by = same_ok e done.server.durable (sym by ∙ subst (λ (o : Option Record). Records o d done.server.durable) is steps)

committed_some : (tells : Type 0) (done : Serving) (d : Durable) (new : Store) (now : View) (r : Record) → (tells → IsHeld now new) → done.spent ≡ None → done.rec ≡ Some r → Records done.rec d done.server.durable → step r d ≡ Ok (view_of new) → tells → LeavesSome done d now
committed_some tells done d new now r held none is steps by told image left =
    inr (none, subst (λ (x : Durable). StandsFor image x) (is_behind done d (view_of new) r is steps by) (held_stands now new (held told) image left))

either_some : (done : Serving) (d : Durable) (now : View) (r : Record) → done.spent ≡ None → done.rec ≡ Some r → Records done.rec d done.server.durable → LeavesEither r d now → LeavesSome done d now
either_some done d now r none is steps h image left =
    ⊎_elim (λ x. inl x) (λ e. inr (none, subst (λ (x : Durable). StandsFor image x) (is_behind done d e.0 r is steps e.1) e.2)) (h image left)

in_doubt : (tells : Type 0) (done : Serving) (d : Durable) (now : View) (r : Record) → done.rec ≡ Some r → done.spent ≡ None → Records done.rec d done.server.durable → (tells → LeavesEither r d now) → (tells → StandsFor now.synced d) → InDoubt tells done d now r
in_doubt tells done d now r is none steps leaves synced = record { rec_is = is; unspent = none; steps = subst (λ (o : Option Record). Records o d done.server.durable) is steps; leaves = leaves; synced = synced }

-- a stop counts
no_stop : (n : ℕ) → Rose 0 n → n ≡ 0 → ⊥
no_stop n rose e = omega (arith, rose, e)

was_marked : {A B : Type 0} (n : ℕ) → Rose 0 n → ((n ≡ 0) × A) ⊎ B → B
was_marked n rose h = ⊎_elim (λ x. absurd (no_stop n rose x.0)) (λ x. x) h

pub undone : (T : Type 0) (K : Type 0) (did broke : K → Record → K → Type 0) (k l : K) (tells : Type 0) (old new : Store) (now : View) (mark : Option Mark) (before : List Record) (a b : Counts) (stops : ℕ) (done : Serving)
    → Means K did broke k l tells old new now mark before a b stops → (answer : Result T ServerFault)
    → IfErr answer (λ f. Hurts SpendsNothing did broke f done k l) → IfErr answer (λ f. SpendsIn f done) → IfErr answer (λ f. Steps f done (view_of old) k l)
    → (answer ≡ Err server.DiskStopped → Rose 0 stops)
    → IfErr answer (λ f. Undone f tells done old new now mark before)
undone T K did broke k l tells old new now mark before a b stops done m (Ok x) hurts spends steps rose = tt
undone T K did broke k l tells old new now mark before a b stops done m (Err (server.Spent n)) hurts spends steps rose =
    let s = m.same hurts in record { spent = spends; store = s.store; held = s.held }
undone T K did broke k l tells old new now mark before a b stops done m (Err server.DiskFailed) hurts spends steps rose =
    let s = m.doubted hurts.1.0 hurts.1.2 in
    (hurts.1.0, in_doubt tells done (view_of old) now hurts.1.0 hurts.1.1 hurts.0 steps s.leaves s.synced)
undone T K did broke k l tells old new now mark before a b stops done m (Err server.DiskStopped) hurts spends steps rose =
    let s = m.doubted hurts.1.0 hurts.1.2 in
    let marked : Marked mark hurts.1.0 (view_of old) before × Counted a b ⊥ (Unit {0}) × (tells → StopsFor a.armed old now hurts.1.0) = was_marked stops (rose refl) s.marked in
    (hurts.1.0, in_doubt tells done (view_of old) now hurts.1.0 hurts.1.1 hurts.0 steps s.leaves s.synced, marked.0)
undone T K did broke k l tells old new now mark before a b stops done m (Err server.NoMemory) hurts spends steps rose =
    let still : l ≡ k → tells → LeavesSome done (view_of old) now = λ is. let s = m.same is in held_some tells done (view_of old) new now s.held (ap view_of s.store) in
    ⊎_elim still
    (λ h.
    ⊎_elim still
    (λ goes.
    ⊎_elim (λ is. let s = m.committed h.1.0 is in committed_some tells done (view_of old) new now h.1.0 s.held h.0 h.1.1 goes s.steps)
    (λ is told. either_some done (view_of old) now h.1.0 h.0 h.1.1 goes ((m.doubted h.1.0 is).leaves told))
    h.1.2)
    steps)
    hurts

pub has_mark : (T : Type 0) (tells : Type 0) (done : Serving) (old new : Store) (now : View) (mark : Option Mark) (before : List Record) (answer : Result T ServerFault) → IfErr answer (λ f. Undone f tells done old new now mark before) → HasMark answer mark
has_mark T tells done old new now (Some mark) before (Ok x) h = tt
has_mark T tells done old new now None before (Ok x) h = tt
has_mark T tells done old new now (Some mark) before (Err (server.Spent n)) h = tt
has_mark T tells done old new now None before (Err (server.Spent n)) h = tt
has_mark T tells done old new now (Some mark) before (Err server.DiskFailed) h = tt
has_mark T tells done old new now None before (Err server.DiskFailed) h = tt
has_mark T tells done old new now (Some mark) before (Err server.DiskStopped) h = tt
has_mark T tells done old new now None before (Err server.DiskStopped) h = h.2
has_mark T tells done old new now (Some mark) before (Err server.NoMemory) h = tt
has_mark T tells done old new now None before (Err server.NoMemory) h = tt

-- What the answer became.

pub came_is : (T : Type 0) (P : T → Option Mark → Type 0) (tells : Type 0) (done : Serving) (old new : Store) (now : View) (mark : Option Mark) (before : List Record) (answer : Result T ServerFault) (to : Result (Came T) Counter)
    → Turns answer mark to → IfOk answer (λ x. P x mark) → IfErr answer (λ f. Undone f tells done old new now mark before) → IfOk to (CameOf P tells done (view_of old) before now)
came_is T P tells done old new now mark before (Ok x) to is p h = subst (λ (t : Result (Came T) Counter). IfOk t (CameOf P tells done (view_of old) before now)) (sym is) p
came_is T P tells done old new now mark before (Err (server.Spent n)) to is p h = subst (λ (t : Result (Came T) Counter). IfOk t (CameOf P tells done (view_of old) before now)) (sym is) tt
came_is T P tells done old new now mark before (Err server.DiskFailed) to is p h = subst (λ (t : Result (Came T) Counter). IfOk t (CameOf P tells done (view_of old) before now)) (sym is) h
came_is T P tells done old new now None before (Err server.DiskStopped) to is p h = absurd is
came_is T P tells done old new now (Some mark) before (Err server.DiskStopped) to is p h = subst (λ (t : Result (Came T) Counter). IfOk t (CameOf P tells done (view_of old) before now)) (sym is) h
came_is T P tells done old new now mark before (Err server.NoMemory) to is p h = subst (λ (t : Result (Came T) Counter). IfOk t (CameOf P tells done (view_of old) before now)) (sym is) h

pub spent_is : (T : Type 0) (tells : Type 0) (done : Serving) (old new : Store) (now : View) (mark : Option Mark) (before : List Record) (answer : Result T ServerFault) (to : Result (Came T) Counter)
    → Turns answer mark to → IfErr answer (λ f. Undone f tells done old new now mark before) → IfErr to (λ n. Unchanged tells done n old new now)
spent_is T tells done old new now mark before (Ok x) to is h = subst (λ (t : Result (Came T) Counter). IfErr t (λ n. Unchanged tells done n old new now)) (sym is) tt
spent_is T tells done old new now mark before (Err (server.Spent n)) to is h = subst (λ (t : Result (Came T) Counter). IfErr t (λ n. Unchanged tells done n old new now)) (sym is) h
spent_is T tells done old new now mark before (Err server.DiskFailed) to is h = subst (λ (t : Result (Came T) Counter). IfErr t (λ n. Unchanged tells done n old new now)) (sym is) tt
spent_is T tells done old new now None before (Err server.DiskStopped) to is h = absurd is
spent_is T tells done old new now (Some mark) before (Err server.DiskStopped) to is h = subst (λ (t : Result (Came T) Counter). IfErr t (λ n. Unchanged tells done n old new now)) (sym is) tt
spent_is T tells done old new now mark before (Err server.NoMemory) to is h = subst (λ (t : Result (Came T) Counter). IfErr t (λ n. Unchanged tells done n old new now)) (sym is) tt

-- Counts.

-- How the disk's counts moved behind an answer.
abbrev pub CountedIn : ServerFault → Counts → Counts → Type 0
CountedIn server.DiskStopped a b = Counted a b ⊥ (Unit {0})
CountedIn _ a b = Counted a b ⊥ ⊥

pub counted_same : (a : Counts) → Counted a a ⊥ ⊥
counted_same a = record { faults_later = omega arith; stops_later = omega arith; failed = λ x. absurd x; stopped = λ x. absurd x; armed = λ x. absurd x; not_rearmed = λ x. x; stays = λ x. x; over = λ x. absurd x }

pub counted_less : (a b : Counts) (F S : Type 0) → Counted a b F S → Counted a b ⊥ ⊥
counted_less a b F S h = record { faults_later = h.faults_later; stops_later = h.stops_later; failed = λ x. absurd x; stopped = λ x. absurd x; armed = λ x. absurd x; not_rearmed = h.not_rearmed; stays = h.stays; over = λ x. absurd x }

pub counted_stop : (a b : Counts) (F S : Type 0) → S → Counted a b F S → Counted a b ⊥ (Unit {0})
counted_stop a b F S s h = record { faults_later = h.faults_later; stops_later = h.stops_later; failed = λ x. absurd x; stopped = λ x. h.stopped s; armed = λ x. h.armed s; not_rearmed = h.not_rearmed; stays = h.stays; over = λ x. h.over s }

pub ok_counted : (T : Type 0) (gives : T → Served) (K : Type 0) (did broke : K → Record → K → Type 0) (k l : K) (tells : Type 0) (old new : Store) (now : View) (mark : Option Mark) (before : List Record) (a b : Counts) (stops : ℕ)
    → Means K did broke k l tells old new now mark before a b stops → (answer : Result T ServerFault) → IfOk answer (λ x. Did did (gives x).rec k l) → IfOk answer (λ x. Counted a b ⊥ ⊥)
ok_counted T gives K did broke k l tells old new now mark before a b stops m (Err f) h = tt
ok_counted T gives K did broke k l tells old new now mark before a b stops m (Ok x) h = go (gives x).rec h
  where
    go : (rec : Option Record) → Did did rec k l → Counted a b ⊥ ⊥
    go None h = (m.same h).counted
    go (Some r) h = (m.committed r h).counted

-- No turn was due where the step is done.
pub ok_ran : (T : Type 0) (gives : T → Served) (K : Type 0) (did broke : K → Record → K → Type 0) (k l : K) (tells : Type 0) (old new : Store) (now : View) (mark : Option Mark) (before : List Record) (a b : Counts) (stops : ℕ)
    → Means K did broke k l tells old new now mark before a b stops → (answer : Result T ServerFault) → IfOk answer (λ x. Did did (gives x).rec k l) → IfOk answer (λ x. HasRun (view_of old) (view_of new) a b)
ok_ran T gives K did broke k l tells old new now mark before a b stops m (Err f) h = tt
ok_ran T gives K did broke k l tells old new now mark before a b stops m (Ok x) h = go (gives x).rec h
  where
    go : (rec : Option Record) → Did did rec k l → HasRun (view_of old) (view_of new) a b
    go None h = (m.same h).ran
    go (Some r) h = (m.committed r h).ran

pub came_ran : (T : Type 0) (d e : Durable) (a b : Counts) (mark : Option Mark) (answer : Result T ServerFault) (to : Result (Came T) Counter) → Turns answer mark to → IfOk answer (λ x. HasRun d e a b) → IfOk to (λ came. RunsIn came d e a b)
came_ran T d e a b mark (Ok x) to is h = subst (λ (t : Result (Came T) Counter). IfOk t (λ came. RunsIn came d e a b)) (sym is) h
came_ran T d e a b mark (Err (server.Spent n)) to is h = subst (λ (t : Result (Came T) Counter). IfOk t (λ came. RunsIn came d e a b)) (sym is) tt
came_ran T d e a b mark (Err server.DiskFailed) to is h = subst (λ (t : Result (Came T) Counter). IfOk t (λ came. RunsIn came d e a b)) (sym is) tt
came_ran T d e a b None (Err server.DiskStopped) to is h = absurd is
came_ran T d e a b (Some mark) (Err server.DiskStopped) to is h = subst (λ (t : Result (Came T) Counter). IfOk t (λ came. RunsIn came d e a b)) (sym is) tt
came_ran T d e a b mark (Err server.NoMemory) to is h = subst (λ (t : Result (Came T) Counter). IfOk t (λ came. RunsIn came d e a b)) (sym is) tt

-- the turns of a commit, by the room for its record
turns_are : (need free turns : ℕ) → (need ≤ free → turns ≡ 4) → (free < need → 9 ≤ turns) → (turns ≡ 4) ⊎ (9 ≤ turns)
turns_are need free turns room none = ⊎_elim (λ h. inl (room h.1)) (λ h. inr (none h.1)) (leb_tells need free)

-- What the turn that was due tells of a stop.

halfway : (turn : ℕ) (s : Store) (now : View) (r : Record) (e : Durable) → step r (view_of s) ≡ Ok e → StopsHalfway (need_of (record_code.spell r)) (free_now s.selected) turn now r (view_of s) → Halfway turn (view_of s) e now
halfway turn s now r e steps h = record { most = h.most; usual = turns_are _ _ h.most h.room h.no_room; within = h.within; early = h.halves.early; late = λ last. h.halves.late last e steps }

-- a fault that stopped
abbrev pub StopsIn : ServerFault → Type 0 → Option ℕ → Durable → Durable → View → Type 0
StopsIn server.DiskStopped tells armed before stepped now = tells → StopsAt armed before stepped now
StopsIn _ tells armed before stepped now = Unit {0}

pub err_stops : (T : Type 0) (K : Type 0) (did broke : K → Record → K → Type 0) (k l : K) (tells : Type 0) (old new : Store) (now : View) (mark : Option Mark) (before : List Record) (a b : Counts) (stops : ℕ) (done : Serving)
    → Means K did broke k l tells old new now mark before a b stops → (answer : Result T ServerFault) → IfErr answer (λ f. Hurts SpendsNothing did broke f done k l) → IfErr answer (λ f. Steps f done (view_of old) k l)
    → (answer ≡ Err server.DiskStopped → Rose 0 stops) → IfErr answer (λ f. StopsIn f tells a.armed (view_of old) done.server.durable now)
err_stops T K did broke k l tells old new now mark before a b stops done m (Ok x) hurts steps rose = tt
err_stops T K did broke k l tells old new now mark before a b stops done m (Err (server.Spent n)) hurts steps rose = tt
err_stops T K did broke k l tells old new now mark before a b stops done m (Err server.DiskFailed) hurts steps rose = tt
err_stops T K did broke k l tells old new now mark before a b stops done m (Err server.DiskStopped) hurts steps rose = λ told turn armed.
    let marked : Marked mark hurts.1.0 (view_of old) before × Counted a b ⊥ (Unit {0}) × (tells → StopsFor a.armed old now hurts.1.0) = was_marked stops (rose refl) (m.doubted hurts.1.0 hurts.1.2).marked in
    halfway turn old now hurts.1.0 done.server.durable (subst (λ (o : Option Record). Records o (view_of old) done.server.durable) hurts.1.1 steps) (marked.2 told turn armed)
err_stops T K did broke k l tells old new now mark before a b stops done m (Err server.NoMemory) hurts steps rose = tt

pub came_stops : (T : Type 0) (tells : Type 0) (armed : Option ℕ) (d e : Durable) (now : View) (mark : Option Mark) (answer : Result T ServerFault) (to : Result (Came T) Counter) → Turns answer mark to → IfErr answer (λ f. StopsIn f tells armed d e now) → IfOk to (λ came. StopsSo came tells armed d e now)
came_stops T tells armed d e now mark (Ok x) to is h = subst (λ (t : Result (Came T) Counter). IfOk t (λ came. StopsSo came tells armed d e now)) (sym is) tt
came_stops T tells armed d e now mark (Err (server.Spent n)) to is h = subst (λ (t : Result (Came T) Counter). IfOk t (λ came. StopsSo came tells armed d e now)) (sym is) tt
came_stops T tells armed d e now mark (Err server.DiskFailed) to is h = subst (λ (t : Result (Came T) Counter). IfOk t (λ came. StopsSo came tells armed d e now)) (sym is) tt
came_stops T tells armed d e now None (Err server.DiskStopped) to is h = absurd is
came_stops T tells armed d e now (Some mark) (Err server.DiskStopped) to is h = subst (λ (t : Result (Came T) Counter). IfOk t (λ came. StopsSo came tells armed d e now)) (sym is) h
came_stops T tells armed d e now mark (Err server.NoMemory) to is h = subst (λ (t : Result (Came T) Counter). IfOk t (λ came. StopsSo came tells armed d e now)) (sym is) tt

not_stopped : (a b : Counts) (A B C E : Type 0) → (A × Counted a b ⊥ ⊥) ⊎ (B × Counted a b ⊥ C × E) → Counted a b ⊥ ⊥
not_stopped a b A B C E h = ⊎_elim (λ x. x.1) (λ x. counted_less a b ⊥ C x.1) h

pub err_counted : (T : Type 0) (K : Type 0) (did broke : K → Record → K → Type 0) (k l : K) (tells : Type 0) (old new : Store) (now : View) (mark : Option Mark) (before : List Record) (a b : Counts) (stops : ℕ) (done : Serving)
    → Means K did broke k l tells old new now mark before a b stops → (answer : Result T ServerFault) → IfErr answer (λ f. Hurts SpendsNothing did broke f done k l)
    → (answer ≡ Err server.DiskStopped → Rose 0 stops) → IfErr answer (λ f. CountedIn f a b)
err_counted T K did broke k l tells old new now mark before a b stops done m (Ok x) hurts rose = tt
err_counted T K did broke k l tells old new now mark before a b stops done m (Err (server.Spent n)) hurts rose = (m.same hurts).counted
err_counted T K did broke k l tells old new now mark before a b stops done m (Err server.DiskFailed) hurts rose = not_stopped a b _ _ _ _ (m.doubted hurts.1.0 hurts.1.2).marked
err_counted T K did broke k l tells old new now mark before a b stops done m (Err server.DiskStopped) hurts rose =
    let marked : Marked mark hurts.1.0 (view_of old) before × Counted a b ⊥ (Unit {0}) × (tells → StopsFor a.armed old now hurts.1.0) = was_marked stops (rose refl) (m.doubted hurts.1.0 hurts.1.2).marked in
    marked.1
err_counted T K did broke k l tells old new now mark before a b stops done m (Err server.NoMemory) hurts rose =
    ⊎_elim (λ is. (m.same is).counted)
    (λ h. ⊎_elim (λ is. (m.committed h.1.0 is).counted) (λ is. not_stopped a b _ _ _ _ (m.doubted h.1.0 is).marked) h.1.2)
    hurts

abbrev with_stops : Counts → ℕ → Counts
with_stops a n = record a { stops = n }

counts_by : (a b : Counts) (n : ℕ) (F S G X Y : Type 0) → Counted (with_stops a 0) (with_stops b n) F S → Counted a b ⊥ X → (G → F) → (Y → S) → (Y → X) → Counted a b G Y
counts_by a b n F S G X Y m c f s x = record {
  faults_later = m.faults_later;
  stops_later = c.stops_later;
  failed = λ g. m.failed (f g);
  stopped = λ y. c.stopped (x y);
  armed = λ y. m.armed (s y);
  not_rearmed = m.not_rearmed;
  stays = m.stays;
  over = λ y. m.over (s y);
}

done_clash : (T : Type 0) (x : T) (mark : Option Mark) → ◌≡◌ {A = Result (Came T) Counter} (Ok (came.Done x mark)) (Ok came.DiskFailed) → ⊥
done_clash T x mark e = cc

spent_clash : (T : Type 0) (n : Counter) → ◌≡◌ {A = Result (Came T) Counter} (Err n) (Ok came.DiskFailed) → ⊥
spent_clash T n e = cc

stopped_clash : (T : Type 0) (mark : Mark) → ◌≡◌ {A = Result (Came T) Counter} (Ok (came.Stopped mark)) (Ok came.DiskFailed) → ⊥
stopped_clash T mark e = cc

wants_clash : (T : Type 0) → ◌≡◌ {A = Result (Came T) Counter} (Ok came.NoMemory) (Ok came.DiskFailed) → ⊥
wants_clash T e = cc

abbrev Counting : (T : Type 0) → Counts → Counts → Result (Came T) Counter → Type 0
Counting T a b to = Counted a b (to ≡ Ok came.DiskFailed) (IsStop to)

pub counts_are : (T : Type 0) (a b : Counts) (n : ℕ) (mark : Option Mark) (answer : Result T ServerFault) (to : Result (Came T) Counter) → Turns answer mark to
    → Counted (record a { stops = 0 }) (record b { stops = n }) (answer ≡ Err server.DiskFailed) (answer ≡ Err server.DiskStopped)
    → IfOk answer (λ x. Counted a b ⊥ ⊥) → IfErr answer (λ f. CountedIn f a b) → Counted a b (to ≡ Ok came.DiskFailed) (IsStop to)
counts_are T a b n mark (Ok x) to is m c h = subst (Counting T a b) (sym is) (counts_by a b n _ _ _ ⊥ ⊥ m c (λ e. absurd (done_clash T x mark e)) (λ e. absurd e) (λ e. e))
counts_are T a b n mark (Err (server.Spent s)) to is m c h = subst (Counting T a b) (sym is) (counts_by a b n _ _ _ ⊥ ⊥ m h (λ e. absurd (spent_clash T s e)) (λ e. absurd e) (λ e. e))
counts_are T a b n mark (Err server.DiskFailed) to is m c h = subst (Counting T a b) (sym is) (counts_by a b n _ _ _ ⊥ ⊥ m h (λ e. refl) (λ e. absurd e) (λ e. e))
counts_are T a b n None (Err server.DiskStopped) to is m c h = absurd is
counts_are T a b n (Some mark) (Err server.DiskStopped) to is m c h = subst (Counting T a b) (sym is) (counts_by a b n _ _ _ (Unit {0}) (Unit {0}) m h (λ e. absurd (stopped_clash T mark e)) (λ e. refl) (λ e. e))
counts_are T a b n mark (Err server.NoMemory) to is m c h = subst (Counting T a b) (sym is) (counts_by a b n _ _ _ ⊥ ⊥ m h (λ e. absurd (wants_clash T e)) (λ e. absurd e) (λ e. e))

-- The keeper over a store and its disk.

abbrev pub disk_did : {D : Type 0} → Type 0 → (D → View) → (D → Counts) → Marking D → Record → Marking D → Type 0
disk_did tells view counts k r l =
    Kept tells view counts k.keeper r l.keeper
    × (l.marks.ghost_name ≡ k.marks.ghost_name)
    × HasMarked l.marks.now.mark r (view_of k.keeper.store.now) k.records.now.items (counts k.keeper.disk.now) (counts l.keeper.disk.now)

abbrev pub disk_broke : {D : Type 0} → Type 0 → (D → View) → (D → Counts) → Marking D → Record → Marking D → Type 0
disk_broke tells view counts k r l =
    (l.marks.ghost_name ≡ k.marks.ghost_name)
    × MayHaveMarked (l.keeper ≡ k.keeper) (Broke tells view counts k.keeper r l.keeper) (Stops tells view counts k.keeper r l.keeper)
    k.marks.now.stopped.items l.marks.now.stopped.items l.marks.now.mark r (view_of k.keeper.store.now) k.records.now.items (counts k.keeper.disk.now) (counts l.keeper.disk.now)

-- what a crash leaves now is among what it might have left since
abbrev pub NowCounts : View → View → Type 0
NowCounts before now = (image : List ℕ) → before.moment ≤ now.moment → now.may_leave image → now.left_since before.moment image

either_now : (before now : View) (r : Record) (d : Durable) → NowCounts before now → LeavesOnly before now (StandsForEither r d) → LeavesEither r d now
either_now before now r d law h image left = h.each image (law image h.later left)

held_either : (now : View) (s : Store) (r : Record) → IsHeld now s → LeavesEither r (view_of s) now
held_either now s r h image left = inl (held_stands now s h image left)

doubted_by : (tells : Type 0) (old : Store) (now : View) (mark : Option Mark) (before : List Record) (a b : Counts) (r : Record) (A B S : Type 0) (stopped more : List Record) → stopped ≡ []
    → (A → tells → LeavesEither r (view_of old) now × StandsFor now.synced (view_of old)) → (B → tells → LeavesEither r (view_of old) now × StandsFor now.synced (view_of old)) → (S → tells → StopsFor a.armed old now r)
    → MayHaveMarked A B S stopped more mark r (view_of old) before a b → Doubted tells old now mark before a b (length more) r
doubted_by tells old now mark before a b r A B S stopped more none same broke stops (inl h) =
    record { leaves = λ told. (⊎_elim same broke h.broke told).0; synced = λ told. (⊎_elim same broke h.broke told).1; marked = inl (h.stopped_are ∙ ap (λ (rs : List Record). length rs) none, h.counted) }
doubted_by tells old now mark before a b r A B S stopped more none same broke stops (inr h) =
    record { leaves = λ told. (broke h.broke told).0; synced = λ told. (broke h.broke told).1; marked = inr (h.marked, h.counted, stops h.stops) }

has_run : (before after : Durable) (a b : Counts) (r : Record) (need free turns : ℕ) → step r before ≡ Ok after → Turned turns a.armed b.armed (Unit {0}) ⊥ → (need ≤ free → turns ≡ 4) → (free < need → 9 ≤ turns) → HasRun before after a b
has_run before after a b r need free turns steps h room none = record { turns = turns; takes = inr (r, steps, turns_are need free turns room none); next = h.next; none_due = h.goes tt }

pub means : {D : Type 0} (tells : Type 0) (view : D → View) (counts : D → Counts) (k l : Marking D) → (tells → NowCounts (view k.keeper.disk.now) (view l.keeper.disk.now))
    → (tells → (view k.keeper.disk.now).may_leave (view k.keeper.disk.now).synced) → (tells → IsHeld (view k.keeper.disk.now) k.keeper.store.now) → k.marks.now.mark ≡ None → k.marks.now.stopped.items ≡ []
    → Means (Marking D) (disk_did tells view counts) (disk_broke tells view counts) k l tells k.keeper.store.now l.keeper.store.now (view l.keeper.disk.now) l.marks.now.mark k.records.now.items
    (counts k.keeper.disk.now) (counts l.keeper.disk.now) (length l.marks.now.stopped.items)
means {D} tells view counts k l law given held none_marked none_stopped = record {
  committed = λ r h. record { steps = h.0.2; held = λ told. (h.0.3 told (held told)).held; marked = h.2.marked; counted = h.2.counted; ran = has_run (view_of k.keeper.store.now) (view_of l.keeper.store.now) (counts k.keeper.disk.now) (counts l.keeper.disk.now) r _ _ h.0.5.0 h.0.2 h.0.5.1 h.0.5.2 h.0.5.3 };
  doubted = λ r h.
      doubted_by tells k.keeper.store.now (view l.keeper.disk.now) l.marks.now.mark k.records.now.items (counts k.keeper.disk.now) (counts l.keeper.disk.now) r _ _ _ k.marks.now.stopped.items l.marks.now.stopped.items none_stopped
      (λ same told.
      let held_now = held told in
      subst (λ (x : DiskKeeper D). LeavesEither r (view_of k.keeper.store.now) (view x.disk.now) × StandsFor (view x.disk.now).synced (view_of k.keeper.store.now)) (sym same)
      (held_either (view k.keeper.disk.now) k.keeper.store.now r held_now, held_stands (view k.keeper.disk.now) k.keeper.store.now held_now (view k.keeper.disk.now).synced (given told)))
      (λ b told. (either_now (view k.keeper.disk.now) (view l.keeper.disk.now) r (view_of k.keeper.store.now) (law told) (b.2 told (held told)), b.4 told (held told)))
      (λ stops told. stops told (held told))
      h.1;
  same = λ e.
      let to : Marking D → Type 0 = λ x. Same tells k.keeper.store.now x.keeper.store.now (view x.keeper.disk.now) x.marks.now.mark (counts k.keeper.disk.now) (counts x.keeper.disk.now) in
      subst to (sym e) (record { store = refl; held = held; none = none_marked; counted = counted_same (counts k.keeper.disk.now); ran = run_same (view_of k.keeper.store.now) (view_of k.keeper.store.now) (counts k.keeper.disk.now) refl });
}

-- A server's faults.

pub leaves_spends : (T : Type 0) (answer : Result T ServerFault) (a b : Counts) (done : Serving) (was is : State) → IfErr answer (λ f. FaultLeaves f a b done was is) → IfErr answer (λ f. SpendsIn f done)
leaves_spends T (Ok x) a b done was is h = tt
leaves_spends T (Err (server.Spent n)) a b done was is h = h.0
leaves_spends T (Err server.DiskFailed) a b done was is h = tt
leaves_spends T (Err server.DiskStopped) a b done was is h = tt
leaves_spends T (Err server.NoMemory) a b done was is h = tt

pub unstarted_spends : (T : Type 0) (answer : Result T ServerFault) (done : Serving) (d e : Durable) → IfErr answer (λ f. Unstarted f done d e) → IfErr answer (λ f. SpendsIn f done)
unstarted_spends T (Ok x) done d e h = tt
unstarted_spends T (Err (server.Spent n)) done d e h = h.0
unstarted_spends T (Err server.DiskFailed) done d e h = tt
unstarted_spends T (Err server.DiskStopped) done d e h = tt
unstarted_spends T (Err server.NoMemory) done d e h = tt

-- A server that was down leaves its keeper; one that wasn't takes the machine's step.
pub steps_up : {K : Type 0} (answer : Result Served ServerFault) (was is : Bool) (done : Serving) (d : Durable) (k l : K) → GoesDown answer was is → (was ≡ true → l ≡ k) → (was ≡ false → Records done.rec d done.server.durable) → IfErr answer (λ f. Steps f done d k l)
steps_up (Ok x) was is done d k l h rests to = tt
steps_up (Err (server.Spent n)) was is done d k l h rests to = tt
steps_up (Err server.DiskFailed) was is done d k l h rests to = to h.0
steps_up (Err server.DiskStopped) was is done d k l h rests to = to h.0
steps_up (Err server.NoMemory) true is done d k l h rests to = inl (rests refl)
steps_up (Err server.NoMemory) false is done d k l h rests to = inr (to refl)

pub steps_any : {K : Type 0} (T : Type 0) (answer : Result T ServerFault) (done : Serving) (d : Durable) (k l : K) → Records done.rec d done.server.durable → IfErr answer (λ f. Steps f done d k l)
steps_any T (Ok x) done d k l to = tt
steps_any T (Err (server.Spent n)) done d k l to = tt
steps_any T (Err server.DiskFailed) done d k l to = to
steps_any T (Err server.DiskStopped) done d k l to = to
steps_any T (Err server.NoMemory) done d k l to = inr to

-- a spent counter leaves the server as it was
pub same_is : (T : Type 0) (answer : Result T ServerFault) (mark : Option Mark) (to : Result (Came T) Counter) (a b : Counts) (done : Serving) (was is : State) → Turns answer mark to → IfErr answer (λ f. FaultLeaves f a b done was is) → IfErr to (λ n. is ≡ was)
same_is T (Ok x) mark to a b done was is turns h = subst (λ (t : Result (Came T) Counter). IfErr t (λ n. is ≡ was)) (sym turns) tt
same_is T (Err (server.Spent n)) mark to a b done was is turns h = subst (λ (t : Result (Came T) Counter). IfErr t (λ n. is ≡ was)) (sym turns) h.1
same_is T (Err server.DiskFailed) mark to a b done was is turns h = subst (λ (t : Result (Came T) Counter). IfErr t (λ n. is ≡ was)) (sym turns) tt
same_is T (Err server.DiskStopped) None to a b done was is turns h = absurd turns
same_is T (Err server.DiskStopped) (Some mark) to a b done was is turns h = subst (λ (t : Result (Came T) Counter). IfErr t (λ n. is ≡ was)) (sym turns) tt
same_is T (Err server.NoMemory) mark to a b done was is turns h = subst (λ (t : Result (Came T) Counter). IfErr t (λ n. is ≡ was)) (sym turns) tt
