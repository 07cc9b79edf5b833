-- A clerk's queued calls begin one after another.
use Rattle.std.proofs.Common.{◌≡◌, ◌+◌, ◌++◌, ℕ, true, false, List, [], ◌∷◌, None, Some, Result, Ok, Err, drop, refl, subst, sym, ap, ◌∙◌, inl, inr, append-nil}
use Rattle.std.specs.Prelude.{◌⊎◌, IfErr, IsOk, OnOk, map}
use Rattle.ec_base.specs.Tables.{at_or}
use Rattle.ec_plain.specs.declared.call.Call.{Call}
use Rattle.ec_history.specs.declared.shown.Shown.{Shown}
use Rattle.ec_protocol.specs.Resumes.{resume}
use Rattle.ec_protocol.specs.World.{Moving}
use Rattle.ec_protocol.specs.declared.world.World.{World as State}
use Rattle.ec_protocol.specs.declared.world.WorldFault.{WorldFault}
use Rattle.ec_protocol.specs.declared.world.WorldFault.TheVariants as world_fault
use Rattle.ec_lease_machine.specs.Leases.{LeaseMoving, begin_each, is_held, moved, onward, with_queue}
use Rattle.ec_lease_machine.specs.declared.world.LeaseFault.{LeaseFault}
use Rattle.ec_lease_machine.specs.declared.world.LeaseFault.TheVariants as fault
use Rattle.ec_lease_machine.specs.declared.world.LeaseShown.{LeaseShown}
use Rattle.ec_lease_machine.specs.declared.world.LeaseShown.TheVariants.{Line}
use Rattle.ec_lease_machine.specs.OfBook.Book.{Booked, with_book}
use Rattle.ec_world.specs.Leases.{QueuesNot as BeginsNot}
use Rattle.ec_world.specs.Worlds as worlds
use Rattle.ec_world.specs.declared.world.World.{World as Code}
use Rattle.ec_lease.specs.Queued.{begin_from}
use Rattle.ec_lease.specs.Steps.{QueuesNot, as_lease_fault}
use Rattle.ec_lease.specs.Worlds.{ended_with, under_way, leased, KeepsServer}
use Rattle.ec_lease.specs.declared.world.LeaseWorld.{LeaseWorld}
use Rattle.ec_lease.proofs.Comes.{of_parts}
use Rattle.ec_lease.proofs.Parts.{begin_by, begin_more, moved_by}

abbrev Queue : Type 0
Queue = List (ℕ × Call)

-- One call, by what the world makes of it.

abbrev pub call_of : ℕ → ℕ → Call → LeaseWorld → LeaseMoving
call_of c line cl x = onward (under_way x) (moved (resume c line cl (worlds.view_of x.world)) (leased x))

shows_lines : (c line : ℕ) (cl : Call) (x : LeaseWorld) (mid : Code) (lines : List Shown) (y : LeaseWorld) → resume c line cl (worlds.view_of x.world) ≡ record { world = worlds.view_of mid; shown = lines; fault = None }
    → y.world ≡ mid → y.book ≡ x.book → y.piece.items ≡ x.piece.items ++ map Line lines → call_of c line cl x ≡ under_way y
shows_lines c line cl x mid lines y is world book piece =
    ap (λ (r : Moving). onward (under_way x) (moved r (leased x))) is
    ∙ ap (λ w. of_parts w x.book (x.piece.items ++ map Line lines)) (sym world)
    ∙ ap (λ b. of_parts y.world b (x.piece.items ++ map Line lines)) (sym book)
    ∙ ap (of_parts y.world y.book) (sym piece)

pub call_shows : {A : Type 0} (r : Result A LeaseFault) (c line : ℕ) (cl : Call) (x : LeaseWorld) (mid : Code) (lines : List Shown) (y : LeaseWorld) → resume c line cl (worlds.view_of x.world) ≡ record { world = worlds.view_of mid; shown = lines; fault = None }
    → y.world ≡ mid → y.book ≡ x.book → OnOk r (y.piece.items ≡ x.piece.items ++ map Line lines) → OnOk r (call_of c line cl x ≡ under_way y)
call_shows (Ok a) c line cl x mid lines y is world book piece = shows_lines c line cl x mid lines y is world book piece
call_shows (Err f) c line cl x mid lines y is world book piece = tt

pub wants_alone : {A : Type 0} (r : Result A LeaseFault) (m : LeaseMoving) (y : LeaseWorld) → IfErr r (λ f. f ≡ fault.NoMemory) → IfErr r (λ f. QueuesNot f m (ended_with f y))
wants_alone (Ok a) m y is = tt
wants_alone (Err f) m y is = subst (λ (g : LeaseFault). QueuesNot g m (ended_with g y)) (sym is) tt

call_ends : (c line : ℕ) (cl : Call) (x y : LeaseWorld) (f : WorldFault) → (resume c line cl (worlds.view_of x.world)).fault ≡ Some f → worlds.view_of y.world ≡ worlds.view_of x.world → y.book ≡ x.book → y.piece ≡ x.piece → call_of c line cl x ≡ ended_with (fault.World f) y
call_ends c line cl x y f is world book piece =
    let r = resume c line cl (worlds.view_of x.world) in
    let to : State → Booked → List LeaseShown → LeaseMoving = λ w b ls. record { world = with_book b w; shown = ls; fault = Some (fault.World f) } in
    ap (λ o. onward (under_way x) (moved_by r (leased x) o)) is
    ∙ ap (λ ls. to (worlds.view_of x.world) x.book ls) (append-nil x.piece.items)
    ∙ ap (λ w. to w x.book x.piece.items) (sym world) ∙ ap (λ b. to (worlds.view_of y.world) b x.piece.items) (sym book) ∙ ap (λ p. to (worlds.view_of y.world) y.book p.items) (sym piece)

ends_by : (why : WorldFault) (c line : ℕ) (cl : Call) (x y : LeaseWorld) → BeginsNot why (resume c line cl (worlds.view_of x.world)) (worlds.view_of x.world) (worlds.view_of y.world) → y.book ≡ x.book → y.piece ≡ x.piece → QueuesNot (as_lease_fault why) (call_of c line cl x) (ended_with (as_lease_fault why) y)
ends_by (world_fault.Spent n) c line cl x y h book piece = call_ends c line cl x y (world_fault.Spent n) h.0 h.1 book piece
ends_by world_fault.NoMemory c line cl x y h book piece = tt
ends_by (world_fault.BadDisk p) c line cl x y h book piece = absurd h
ends_by world_fault.DiskFailed c line cl x y h book piece = absurd h
ends_by world_fault.NoSuchOp c line cl x y h book piece = absurd h
ends_by world_fault.NoSuchMsg c line cl x y h book piece = absurd h

pub call_not : (g : LeaseFault) (why : WorldFault) (c line : ℕ) (cl : Call) (x y : LeaseWorld) → g ≡ as_lease_fault why → BeginsNot why (resume c line cl (worlds.view_of x.world)) (worlds.view_of x.world) (worlds.view_of y.world) → y.book ≡ x.book → y.piece ≡ x.piece
    → QueuesNot g (call_of c line cl x) (ended_with g y)
call_not g why c line cl x y is h book piece = subst (λ (f : LeaseFault). QueuesNot f (call_of c line cl x) (ended_with f y)) (sym is) (ends_by why c line cl x y h book piece)

-- The next one of a clerk that isn't held.

abbrev queue_of : ℕ → LeaseWorld → Queue
queue_of c x = at_or [] c x.book.queued

next_is : (c n : ℕ) (q : ℕ × Call) (x : LeaseWorld) (m : LeaseMoving) → drop n (queue_of c x) ≡ q ∷ drop (n + 1) (queue_of c x) → is_held c (leased x) ≡ false → call_of c q.0 q.1 x ≡ m → begin_from c n x ≡ begin_more c (drop (n + 1) (queue_of c x)) m m.fault
next_is c n q x m next free one =
    ap (λ qs. begin_each c qs (under_way x)) next
    ∙ ap (begin_by c q (drop (n + 1) (queue_of c x)) (under_way x)) free
    ∙ ap (λ (m : LeaseMoving). begin_more c (drop (n + 1) (queue_of c x)) m m.fault) one

next_begins : (c n : ℕ) (q : ℕ × Call) (x y : LeaseWorld) → drop n (queue_of c x) ≡ q ∷ drop (n + 1) (queue_of c x) → is_held c (leased x) ≡ false → y.book ≡ x.book → call_of c q.0 q.1 x ≡ under_way y → begin_from c n x ≡ begin_from c (n + 1) y
next_begins c n q x y next free book one =
    next_is c n q x (under_way y) next free one ∙ ap (λ (b : Booked). begin_each c (drop (n + 1) (at_or [] c b.queued)) (under_way y)) (sym book)

pub next_on : {A : Type 0} (r : Result A LeaseFault) (c n : ℕ) (q : ℕ × Call) (x y : LeaseWorld) → drop n (queue_of c x) ≡ q ∷ drop (n + 1) (queue_of c x) → is_held c (leased x) ≡ false → y.book ≡ x.book → OnOk r (call_of c q.0 q.1 x ≡ under_way y) → OnOk r (begin_from c n x ≡ begin_from c (n + 1) y)
next_on (Ok a) c n q x y next free book one = next_begins c n q x y next free book one
next_on (Err f) c n q x y next free book one = tt

next_ends : (f : LeaseFault) (c n : ℕ) (q : ℕ × Call) (x y : LeaseWorld) → drop n (queue_of c x) ≡ q ∷ drop (n + 1) (queue_of c x) → is_held c (leased x) ≡ false → QueuesNot f (call_of c q.0 q.1 x) (ended_with f y) → QueuesNot f (begin_from c n x) (ended_with f y)
next_ends (fault.World (world_fault.Spent k)) c n q x y next free h = next_is c n q x (ended_with (fault.World (world_fault.Spent k)) y) next free h
next_ends (fault.World (world_fault.BadDisk k)) c n q x y next free h = h
next_ends (fault.World world_fault.DiskFailed) c n q x y next free h = h
next_ends (fault.World world_fault.NoSuchOp) c n q x y next free h = h
next_ends (fault.World world_fault.NoSuchMsg) c n q x y next free h = h
next_ends (fault.World world_fault.NoMemory) c n q x y next free h = h
next_ends fault.NoSuchLease c n q x y next free h = h
next_ends fault.NoMemory c n q x y next free h = h

pub next_not : {A : Type 0} (r : Result A LeaseFault) (c n : ℕ) (q : ℕ × Call) (x y : LeaseWorld) → drop n (queue_of c x) ≡ q ∷ drop (n + 1) (queue_of c x) → is_held c (leased x) ≡ false → IfErr r (λ f. QueuesNot f (call_of c q.0 q.1 x) (ended_with f y)) → IfErr r (λ f. QueuesNot f (begin_from c n x) (ended_with f y))
next_not (Ok a) c n q x y next free h = tt
next_not (Err f) c n q x y next free h = next_ends f c n q x y next free h

-- None begins any more: none is left, or the clerk is held.

none_begins : (c : ℕ) (qs : Queue) (x : LeaseWorld) → (qs ≡ []) ⊎ (is_held c (leased x) ≡ true) → begin_each c qs (under_way x) ≡ record (under_way x) { world = with_queue c qs (leased x) }
none_begins c [] x h = refl
none_begins c (q ∷ qs) x (inl none) = cc
none_begins c (q ∷ qs) x (inr held) = ap (begin_by c q qs (under_way x)) held

-- so many began, and the others stay queued
pub all_begun : {A B E : Type 0} (r : Result A LeaseFault) (done : Result B E) (c n : ℕ) (first x : LeaseWorld) (b : Booked) → begin_from c n x ≡ begin_from c 0 first → (drop n (queue_of c x) ≡ []) ⊎ (is_held c (leased x) ≡ true) → OnOk r (IsOk done)
    → OnOk done ((w : State) → with_queue c (drop n (queue_of c x)) (with_book x.book w) ≡ with_book b w) → OnOk r (begin_from c 0 first ≡ under_way (record x { book = b }))
all_begun (Ok a) (Ok d) c n first x b is none told left = sym is ∙ none_begins c (drop n (queue_of c x)) x none ∙ ap (λ w. record (under_way x) { world = w }) (left (worlds.view_of x.world))
all_begun (Ok a) (Err e) c n first x b is none told left = let wrong : false ≡ true = told in cc
all_begun (Err f) done c n first x b is none told left = tt

-- what a call of the world and lines behind it leave
pub keeps_on : (x y : LeaseWorld) (mid : Code) → worlds.KeepsServer x.world mid → y.world ≡ mid → KeepsServer x y
keeps_on x y mid h same = subst (λ (w : Code). worlds.KeepsServer x.world w) (sym same) h

pub keeps_two : (x y z : LeaseWorld) → KeepsServer x y → KeepsServer y z → KeepsServer x z
keeps_two x y z one two = record { store = two.store ∙ one.store; server = two.server ∙ one.server }

-- a fault that is handed on
pub handed_on : {A : Type 0} (r : Result A LeaseFault) (f : LeaseFault) (P : LeaseFault → Type 0) → r ≡ Err f → P f → IfErr r P
handed_on {A} r f P is h = subst (λ (r : Result A LeaseFault). IfErr r P) (sym is) h
