-- What comes of each event.
use Rattle.std.proofs.Common.{◌≡◌, ◌+◌, ◌++◌, ◌∷◌, [], ℕ, Bool, true, false, List, Option, None, Some, Result, Ok, Err, refl, subst, sym, ap, ◌∙◌}
use Rattle.std.specs.Prelude.{IfErr, IsOk, OnOk, nat_lt, ⊤}
use Rattle.ec_base.specs.Tables.{at_or, put}
use Rattle.ec_disk.specs.Disk.{Counts, View}
use Rattle.ec_plain.specs.declared.call.Call.{Call}
use Rattle.ec_protocol.specs.Resumes.{open_session}
use Rattle.ec_protocol.specs.World.{Fate, clerks, runs}
use Rattle.ec_protocol.specs.declared.world.Event.{Event}
use Rattle.ec_protocol.specs.declared.world.Event.TheVariants as event
use Rattle.ec_protocol.specs.declared.world.World.{World as State}
use Rattle.ec_protocol.specs.declared.world.WorldFault.TheVariants as world_fault
use Rattle.ec_lease_machine.specs.Leases.{LeaseMoving, end, event_happens, grant, hand, happens, is_held, is_kept, issue, may_receive, moving, noted_if_started, nothing, nth, queue, receive, renew_each, shows, world_happens}
use Rattle.ec_lease_machine.specs.declared.world.Lease.{Lease}
use Rattle.ec_lease_machine.specs.declared.world.LeaseEvent.{LeaseEvent}
use Rattle.ec_lease_machine.specs.declared.world.LeaseEvent.TheVariants as lease_event
use Rattle.ec_lease_machine.specs.declared.world.LeaseFault.{LeaseFault}
use Rattle.ec_lease_machine.specs.declared.world.LeaseFault.TheVariants as fault
use Rattle.ec_lease_machine.specs.declared.world.LeaseShown.{LeaseShown}
use Rattle.ec_lease_machine.specs.declared.world.LeaseShown.TheVariants.{Held}
use Rattle.ec_lease_machine.specs.declared.world.LeaseWorld.{LeaseWorld as Leases}
use Rattle.ec_lease_machine.specs.OfBook.Book.{Booked, with_book}
use Rattle.ec_store.specs.Store as store
use Rattle.ec_world.specs.Laws.{in_step_keeps}
use Rattle.ec_world.specs.StepEnds.{behind_arm}
use Rattle.ec_world.specs.Worlds as worlds
use Rattle.ec_world.specs.declared.world.World.{World as Code}
use Rattle.ec_lease.specs.Steps.{Comes, HappensNot, behind_lease_arm}
use Rattle.ec_lease.specs.Worlds.{ended_with, ticks, under_way, leased, ClocksGoOn, IsInStep, KeepsServer}
use Rattle.ec_lease.specs.declared.world.LeaseWorld.{LeaseWorld}
use Rattle.ec_lease.proofs.Clocks.{grant_stays, hand_stays, nothing_stays, queue_stays, renew_stays, stays, still}
use Rattle.ec_lease.proofs.Comes.{Wants, comes_to, quietly, wants_only}
use Rattle.ec_lease.proofs.Fated.{fated_on}
use Rattle.ec_lease.proofs.Parts.{hand_by}

-- what the same world keeps
pub keeps : (x y : LeaseWorld) → y.world ≡ x.world → KeepsServer x y
keeps x y same = record { store = ap (λ (w : Code). w.store) same; server = ap (λ (w : Code). w.server) same }

pub fresh_still : (x y : LeaseWorld) → y.piece ≡ x.piece → x.piece.items ≡ [] → y.piece.items ≡ []
fresh_still x y same fresh = ap (λ p. p.items) same ∙ fresh

-- a part that wants memory alone
quiet_or_wants : {A : Type 0} (r : Result A LeaseFault) (tells : Type 0) (now : View) (counts : Counts) (steps : Fate → LeaseMoving) (x y : LeaseWorld) → OnOk r (steps runs ≡ under_way y) → ClocksGoOn 0 (leased x) (steps runs).world → KeepsServer x y → IsInStep tells now x → Wants r → Comes r tells now counts counts 0 steps x y
quiet_or_wants r tells now counts steps x y is clock same h wants = quietly r tells now counts 0 steps x y is clock same h (wants_only r (leased x).world steps y (IsInStep tells now y) wants)

-- Calls.

abbrev call_by : Fate → ℕ → ℕ → Call → Leases → Bool → LeaseMoving
call_by fate c line cl x held = elim held [ true ↦ queue c line cl x | false ↦ world_happens fate (event.Call c line cl) x ]

pub call_waits : {A : Type 0} (r : Result A LeaseFault) (tells : Type 0) (now : View) (counts : Counts) (e : Event) (c line : ℕ) (cl : Call) (x y : LeaseWorld) → e ≡ event.Call c line cl → is_held c (leased x) ≡ true
    → OnOk r (queue c line cl (leased x) ≡ under_way y) → Wants r → KeepsServer x y → IsInStep tells now x → Comes r tells now (behind_arm e counts) counts 0 (λ fate. event_happens fate e (leased x)) x y
call_waits r tells now counts e c line cl x y is held queued wants same h =
    let queues = quiet_or_wants r tells now counts (λ fate. queue c line cl (leased x)) x y queued (queue_stays c line cl (leased x)) same h wants in
    comes_to r tells now counts counts e (event.Call c line cl) x y is (subst (λ b. Comes r tells now counts counts 0 (λ fate. call_by fate c line cl (leased x) b) x y) (sym held) queues)

-- Deliveries.

abbrev deliver_by : Fate → ℕ → Leases → Bool → LeaseMoving
deliver_by fate n x kept = elim kept [ true ↦ nothing x | false ↦ world_happens fate (event.Deliver n) x ]

pub message_stays : {A : Type 0} (r : Result A LeaseFault) (tells : Type 0) (now : View) (counts : Counts) (e : Event) (n : ℕ) (x y : LeaseWorld) → e ≡ event.Deliver n → is_kept n (leased x) ≡ true → OnOk r (nothing (leased x) ≡ under_way y) → Wants r → KeepsServer x y → IsInStep tells now x
    → Comes r tells now (behind_arm e counts) counts 0 (λ fate. event_happens fate e (leased x)) x y
message_stays r tells now counts e n x y is kept none wants same h =
    let comes = quiet_or_wants r tells now counts (λ fate. nothing (leased x)) x y none (nothing_stays (leased x)) same h wants in
    comes_to r tells now counts counts e (event.Deliver n) x y is (subst (λ b. Comes r tells now counts counts 0 (λ fate. deliver_by fate n (leased x) b) x y) (sym kept) comes)

-- Ends.

abbrev end_by : Fate → ℕ → ℕ → Leases → Bool → LeaseMoving
end_by fate c m x early = elim early [ true ↦ shows (Held c m ∷ []) x | false ↦ world_happens fate (event.End c) x ]

held_on : {A : Type 0} (r : Result A LeaseFault) (c m : ℕ) (x y : LeaseWorld) → x.piece.items ≡ [] → y.world ≡ x.world → y.book ≡ x.book → OnOk r (y.piece.items ≡ x.piece.items ++ Held c m ∷ []) → OnOk r (shows (Held c m ∷ []) (leased x) ≡ under_way y)
held_on (Ok a) c m x y fresh world book piece =
    let to : Code → Booked → List LeaseShown → LeaseMoving = λ w b ls. record { world = with_book b (worlds.view_of w); shown = ls; fault = None } in
    ap (to x.world x.book) (sym (piece ∙ ap (λ ls. ls ++ Held c m ∷ []) fresh)) ∙ ap (λ w. to w x.book y.piece.items) (sym world) ∙ ap (λ b. to y.world b y.piece.items) (sym book)
held_on (Err f) c m x y fresh world book piece = tt

pub session_is_held : {A : Type 0} (r : Result A LeaseFault) (tells : Type 0) (now : View) (counts : Counts) (c m : ℕ) (o : Option ℕ) (x y : LeaseWorld) → o ≡ Some m → nat_lt (leased x).now m ≡ true → x.piece.items ≡ [] → y.world ≡ x.world → y.book ≡ x.book
    → OnOk r (y.piece.items ≡ x.piece.items ++ Held c m ∷ []) → Wants r → IsInStep tells now x → Comes r tells now counts counts 0 (λ fate. end fate c o (leased x)) x y
session_is_held r tells now counts c m o x y is early fresh world book piece wants h =
    let comes = quiet_or_wants r tells now counts (λ fate. shows (Held c m ∷ []) (leased x)) x y (held_on r c m x y fresh world book piece) (stays (leased x) (leased x) refl refl) (keeps x y world) h wants in
    subst (λ o. Comes r tells now counts counts 0 (λ fate. end fate c o (leased x)) x y) (sym is)
    (subst (λ b. Comes r tells now counts counts 0 (λ fate. end_by fate c m (leased x) b) x y) (sym early) comes)

pub session_may_end : {A : Type 0} (r : Result A LeaseFault) (tells : Type 0) (now : View) (before behind : Counts) (c m : ℕ) (o : Option ℕ) (x y : LeaseWorld) → o ≡ Some m → nat_lt (leased x).now m ≡ false
    → Comes r tells now before behind 0 (λ fate. world_happens fate (event.End c) (leased x)) x y → Comes r tells now before behind 0 (λ fate. end fate c o (leased x)) x y
session_may_end r tells now before behind c m o x y is early comes =
    subst (λ o. Comes r tells now before behind 0 (λ fate. end fate c o (leased x)) x y) (sym is)
    (subst (λ b. Comes r tells now before behind 0 (λ fate. end_by fate c m (leased x) b) x y) (sym early) comes)

pub nothing_holds : {A : Type 0} (r : Result A LeaseFault) (tells : Type 0) (now : View) (before behind : Counts) (c : ℕ) (o : Option ℕ) (x y : LeaseWorld) → o ≡ None
    → Comes r tells now before behind 0 (λ fate. world_happens fate (event.End c) (leased x)) x y → Comes r tells now before behind 0 (λ fate. end fate c o (leased x)) x y
nothing_holds r tells now before behind c o x y is comes = subst (λ o. Comes r tells now before behind 0 (λ fate. end fate c o (leased x)) x y) (sym is) comes

-- Restarts.

abbrev Restarting : Fate → Leases → LeaseMoving
Restarting fate x = world_happens fate event.Restart x

pub restarts : {A B : Type 0} (r : Result A LeaseFault) (a : B) (tells : Type 0) (now : View) (before behind : Counts) (x mid y : LeaseWorld) → Comes {A = B} (Ok a) tells now before behind 0 (λ fate. Restarting fate (leased x)) x mid
    → OnOk r (noted_if_started (under_way mid) ≡ under_way y) → OnOk r (ClocksGoOn 0 (leased mid) (leased y)) → KeepsServer mid y → Wants r → Comes r tells now before behind 0 (λ fate. noted_if_started (Restarting fate (leased x))) x y
restarts (Ok b) a tells now before behind x mid y h on clock same wants = record {
  ok = fated_on tells (leased x).world before behind (λ fate. Restarting fate (leased x)) (under_way mid) (under_way y) noted_if_started on (ap store.view_of same.store) h.ok;
  clock = still (leased x) (leased mid) (leased y) h.clock clock;
  in_step = in_step_keeps tells now mid.world y.world same h.in_step;
  err = tt;
}
restarts {A} (Err f) a tells now before behind x mid y h on clock same wants = record {
  ok = tt;
  clock = tt;
  in_step = tt;
  err = wants_only {A = A} (Err f) (leased x).world (λ fate. noted_if_started (Restarting fate (leased x))) y (IsInStep tells now y) wants;
}

-- The other events.

pub comes_as : {A : Type 0} (r : Result A LeaseFault) (tells : Type 0) (now : View) (before behind : Counts) (e this : LeaseEvent) (x y : LeaseWorld) → e ≡ this → Comes r tells now (behind_lease_arm this before) behind (ticks this) (λ fate. happens fate this (leased x)) x y
    → Comes r tells now (behind_lease_arm e before) behind (ticks e) (λ fate. happens fate e (leased x)) x y
comes_as r tells now before behind e this x y is h = subst (λ (e : LeaseEvent). Comes r tells now (behind_lease_arm e before) behind (ticks e) (λ fate. happens fate e (leased x)) x y) (sym is) h

pub told_ok : {A B E F : Type 0} (r : Result A E) (done : Result B F) (P : Type 0) → OnOk r (IsOk done) → OnOk done P → OnOk r P
told_ok (Ok a) (Ok b) P told p = p
told_ok (Ok a) (Err e) P told p = let wrong : false ≡ true = told in cc
told_ok (Err f) done P told p = tt

-- one that changes the book alone
moves : {A : Type 0} (r : Result A LeaseFault) (s : Leases) (y : LeaseWorld) → y.piece.items ≡ [] → OnOk r (s ≡ leased y) → OnOk r (moving s ≡ under_way y)
moves (Ok a) s y fresh is = ap moving is ∙ ap (λ ls. shows ls (leased y)) (sym fresh)
moves (Err f) s y fresh is = tt

pub ticks_on : {A : Type 0} (r : Result A LeaseFault) (tells : Type 0) (now : View) (counts : Counts) (e : LeaseEvent) (n : ℕ) (x : LeaseWorld) (b : Booked) → e ≡ lease_event.Tick n → b ≡ record x.book { clock = x.book.clock + n } → x.piece.items ≡ [] → IsInStep tells now x → Wants r
    → Comes r tells now (behind_lease_arm e counts) counts (ticks e) (λ fate. happens fate e (leased x)) x (record x { book = b })
ticks_on r tells now counts e n x b is moved fresh h wants =
    let y : LeaseWorld = record x { book = b } in
    let later : Leases = record (leased x) { now = x.book.clock + n } in
    comes_as r tells now counts counts e (lease_event.Tick n) x y is
    (quietly r tells now counts n (λ fate. moving later) x y (moves r later y fresh (always r (ap (λ b. with_book b (worlds.view_of x.world)) (sym moved)))) (record { now = refl; most = refl }) (keeps x y refl) h (wants_only r (leased x).world (λ fate. moving later) y (IsInStep tells now y) wants))
  where
    always : {A P : Type 0} (r : Result A LeaseFault) → P → OnOk r P
    always (Ok a) p = p
    always (Err f) p = tt

pub skews_on : {A : Type 0} (r : Result A LeaseFault) (tells : Type 0) (now : View) (counts : Counts) (e : LeaseEvent) (c s : ℕ) (x : LeaseWorld) (b : Booked) → e ≡ lease_event.Skew c s → OnOk r (b ≡ record x.book { skews = put c s x.book.skews }) → x.piece.items ≡ [] → IsInStep tells now x → Wants r
    → Comes r tells now (behind_lease_arm e counts) counts (ticks e) (λ fate. happens fate e (leased x)) x (record x { book = b })
skews_on r tells now counts e c s x b is set fresh h wants =
    let y : LeaseWorld = record x { book = b } in
    let other : Leases = record (leased x) { skews = put c s x.book.skews } in
    comes_as r tells now counts counts e (lease_event.Skew c s) x y is (quiet_or_wants r tells now counts (λ fate. moving other) x y (moves r other y fresh (seen r set)) (stays (leased x) other refl refl) (keeps x y refl) h wants)
  where
    seen : {A : Type 0} (r : Result A LeaseFault) → OnOk r (b ≡ record x.book { skews = put c s x.book.skews }) → OnOk r (record (leased x) { skews = put c s x.book.skews } ≡ with_book b (worlds.view_of x.world))
    seen (Ok a) set = ap (λ b. with_book b (worlds.view_of x.world)) (sym set)
    seen (Err f) set = tt

-- a grant, where a session is open, and where none is

pub grant_is : {A : Type 0} (r : Result A LeaseFault) (c s : ℕ) (o : Option ℕ) (x y : LeaseWorld) → o ≡ Some s → y.piece.items ≡ [] → OnOk r (issue c s (leased x) ≡ leased y) → OnOk r (grant c o (leased x) ≡ under_way y)
grant_is r c s o x y is fresh issued = subst (λ o. OnOk r (grant c o (leased x) ≡ under_way y)) (sym is) (moves r (issue c s (leased x)) y fresh issued)

pub granted : {A : Type 0} (r : Result A LeaseFault) (tells : Type 0) (now : View) (counts : Counts) (e : LeaseEvent) (c : ℕ) (x y : LeaseWorld) → e ≡ lease_event.Grant c → OnOk r (grant c (open_session c (leased x).world) (leased x) ≡ under_way y) → KeepsServer x y → IsInStep tells now x → Wants r
    → Comes r tells now (behind_lease_arm e counts) counts (ticks e) (λ fate. happens fate e (leased x)) x y
granted r tells now counts e c x y is done same h wants =
    let o = open_session c (leased x).world in
    comes_as r tells now counts counts e (lease_event.Grant c) x y is (quiet_or_wants r tells now counts (λ fate. grant c o (leased x)) x y done (grant_stays c o (leased x)) same h wants)

-- a Lease that is handed

pub hand_is : {A : Type 0} (r : Result A LeaseFault) (c : ℕ) (a : Lease) (o : Option Lease) (x y : LeaseWorld) → o ≡ Some a → may_receive c a (leased x) ≡ true → y.piece.items ≡ [] → OnOk r (receive c a (leased x) ≡ leased y) → OnOk r (hand c o (leased x) ≡ under_way y)
hand_is r c a o x y is may fresh received =
    subst (λ o. OnOk r (hand c o (leased x) ≡ under_way y)) (sym is) (subst (λ b. OnOk r (hand_by c a (leased x) b ≡ under_way y)) (sym may) (moves r (receive c a (leased x)) y fresh received))

hands_not : (f : LeaseFault) (w : State) (steps : Fate → LeaseMoving) (new : LeaseMoving) (P : Type 0) → P → HappensNot f w steps new ⊤ → HappensNot f w steps new P
hands_not fault.NoMemory w steps new P p h = tt
hands_not fault.NoSuchLease w steps new P p h = (h.0, p)
hands_not (fault.World (world_fault.Spent n)) w steps new P p h = (h.0, p)
hands_not (fault.World world_fault.NoSuchOp) w steps new P p h = (h.0, p)
hands_not (fault.World world_fault.NoSuchMsg) w steps new P p h = (h.0, p)
hands_not (fault.World world_fault.DiskFailed) w steps new P p h = tt
hands_not (fault.World world_fault.NoMemory) w steps new P p h = absurd h
hands_not (fault.World (world_fault.BadDisk k)) w steps new P p h = absurd h

pub handed : {A : Type 0} (r : Result A LeaseFault) (tells : Type 0) (now : View) (counts : Counts) (e : LeaseEvent) (c n : ℕ) (x y : LeaseWorld) → e ≡ lease_event.Hand c n → OnOk r (hand c (nth n (at_or [] c x.book.issued)) (leased x) ≡ under_way y) → KeepsServer x y → IsInStep tells now x
    → IfErr r (λ f. HappensNot f (leased x).world (λ fate. hand c (nth n (at_or [] c x.book.issued)) (leased x)) (ended_with f y) ⊤) → Comes r tells now (behind_lease_arm e counts) counts (ticks e) (λ fate. happens fate e (leased x)) x y
handed r tells now counts e c n x y is done same h err =
    let o = nth n (at_or [] c x.book.issued) in
    comes_as r tells now counts counts e (lease_event.Hand c n) x y is (quietly r tells now counts 0 (λ fate. hand c o (leased x)) x y done (hand_stays c o (leased x)) same h (by r err))
  where
    by : {A : Type 0} (r : Result A LeaseFault) → IfErr r (λ f. HappensNot f (leased x).world (λ fate. hand c (nth n (at_or [] c x.book.issued)) (leased x)) (ended_with f y) ⊤)
        → IfErr r (λ f. HappensNot f (leased x).world (λ fate. hand c (nth n (at_or [] c x.book.issued)) (leased x)) (ended_with f y) (IsInStep tells now y))
    by (Ok a) err = tt
    by (Err f) err = hands_not f (leased x).world (λ fate. hand c (nth n (at_or [] c x.book.issued)) (leased x)) (ended_with f y) (IsInStep tells now y) (in_step_keeps tells now x.world y.world same h) err

pub all_renewed : {A : Type 0} (r : Result A LeaseFault) (tells : Type 0) (now : View) (counts : Counts) (e : LeaseEvent) (x y : LeaseWorld) → e ≡ lease_event.Renew → OnOk r (renew_each clerks (leased x) ≡ leased y) → y.world ≡ x.world → y.piece.items ≡ [] → IsInStep tells now x → Wants r
    → Comes r tells now (behind_lease_arm e counts) counts (ticks e) (λ fate. happens fate e (leased x)) x y
all_renewed r tells now counts e x y is renewed world fresh h wants =
    comes_as r tells now counts counts e lease_event.Renew x y is
    (quiet_or_wants r tells now counts (λ fate. moving (renew_each clerks (leased x))) x y (moves r (renew_each clerks (leased x)) y fresh renewed) (renew_stays clerks (leased x)) (keeps x y world) h wants)
