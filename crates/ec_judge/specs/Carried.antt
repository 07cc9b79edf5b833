-- What the judge carries from entry to entry. No public clause cites this module.
use Rattle.std.specs.Prelude.{◌≡◌, ◌==◌, ◌+◌, ℕ, ◌<◌, ◌≤◌, T, Bool, true, false, not, ◌&&◌, ◌||◌, if◌then◌else◌, nat_lt, map, List, [], ◌∷◌, ◌++◌, length, take, drop, Option, Some, None, is_some, MatchBool, MatchOption, ⊤}
use Rattle.std.specs.Ordering.{nat_cmp}
use Rattle.std.specs.FinMap.{is_sorted}
use Rattle.std.specs.List.{filter, find, list_any, list_all}
use Rattle.ec_base.specs.Tables.{Table, at}
use Rattle.ec_volume.specs.Image.{is_gone}
use Rattle.ec_volume.specs.Update.{member, operands, is_sound, first_unfit}
use Rattle.ec_volume.specs.Volume.{Images, images, after, fits_in_turn, formatted, Fits, WellFormed}
use Rattle.ec_volume.specs.declared.update.Update.{Update}
use Rattle.ec_plain.specs.declared.call.Call.{Call}
use Rattle.ec_plain.specs.declared.call.Outcome.{Outcome}
use Rattle.ec_order.specs.Order.{needs}
use Rattle.ec_history.specs.History.{Base, History, Op, Owed, Throughout, Each, Covers, updates, meets, same_start, of_start, of_issue, is_one_of, kept, issued, owed}
use Rattle.ec_history.specs.Legal.{leaves, is_op_of, is_closed, IsLegal, IsLegalNext, from_formatted}
use Rattle.ec_history.specs.declared.entry.Entry.{Entry}
use Rattle.ec_history.specs.declared.rule.Rule.{Rule}
use Rattle.ec_history.specs.declared.rule.Rule.TheVariants as rule
use Rattle.ec_history.specs.OfLaws.Bases.{is_bounded_entry}
use Rattle.ec_judge.specs.Faults.{BreaksEntry}
use Rattle.ec_pending.specs.Pending.{is_in, is_asked, rest, issues_of}
use Rattle.ec_judge.specs.declared.carried.Kept.{Kept}
use Rattle.ec_pending.specs.declared.issue.Issue.{Issue}
use Rattle.ec_judge.specs.declared.carried.Issuer.{Issuer}
use Rattle.ec_judge.specs.declared.carried.Start.{Start}
use Rattle.ec_judge.specs.declared.carried.Touches.{Touches}
use Rattle.ec_order.specs.OfObjtable.Slots.{held}
use Rattle.ec_pending.specs.OfOverlay.Shown.{shown, has_own}
use Rattle.ec_pending.specs.declared.overlay.overlay.Overlay.{Overlay}
use Rattle.ec_judge.specs.declared.carried.Firm.{Firm}
use Rattle.ec_judge.specs.declared.carried.Judge.{Judge}
use Rattle.ec_pending.specs.declared.asked.Asked.{Asked}

abbrev pub op_of : Kept → Op
op_of k = record { clerk = k.clerk; boot = k.boot; number = k.number; place = k.place; update = k.update }

abbrev pub ops_of : List Kept → List Op
ops_of ks = map op_of ks

-- the operation is one of these of the start
abbrev pub is_among : ℕ → ℕ → List ℕ → Kept → Bool
is_among c b ns k = is_one_of c b ns (op_of k)

abbrev pub issue_of : Op → Issue
issue_of k = record { number = k.number; place = k.place; update = k.update }

-- the operations of the start
abbrev pub issues_in : ℕ → ℕ → List Op → List Issue
issues_in c b ks = map issue_of (filter (of_start c b) ks)

abbrev pub is_start : ℕ → ℕ → Start → Bool
is_start c b s = same_start c b s.clerk s.boot

abbrev pub count_of : Option Start → ℕ
count_of None = 0
count_of (Some s) = s.pending.0

abbrev pub owed_of : Option Start → Owed
owed_of None = []
owed_of (Some s) = s.owed

abbrev pub pending_of : Option Start → List Issue
pending_of None = []
pending_of (Some s) = s.pending.1

-- with each operation whose number passes, all those pass that need it
abbrev pub IsUpward : (ℕ → Bool) → List Issue → Type 0
IsUpward g [] = ⊤
IsUpward g (i ∷ is) = (T (g i.number) → Each (λ j. T (needs i.update j.update) → T (g j.number)) is) × IsUpward g is

-- What is carried of a start: how many operations its entries had, what it owes, and which of its operations are pending: with each, those that need it.
pub record IsStart (base : Base) (past : History) (c b : ℕ) (s : Option Start) : Type 0 where
  pub count : count_of s ≡ length (filter (is_op_of c b) past)
  pub owed : owed_of s ≡ owed base past c b
  pub pending : pending_of s ≡ filter (λ i. is_in (pending_of s) i.number) (issues_in c b (issued base past))
  pub upward : IsUpward (is_in (pending_of s)) (issues_in c b (issued base past))

-- no entry covers the operation
abbrev pub IsUncovered : Base → History → Op → Type 0
IsUncovered base past k = Throughout (λ h e. ¬ (Covers base h e k.clerk k.boot k.number)) [] past

-- no call of another clerk touched an operand of it since it was issued
abbrev pub IsUntouched : Base → History → Op → Type 0
IsUntouched base past k = Throughout (λ h e. T (leaves base (kept base h) k.clerk (filter (is_one_of k.clerk k.boot (k.number ∷ [])) (kept base h)) e)) [] past

-- what is known of an object behind one more call that touched it, of the clerk c at the turn t
abbrev pub touched_next : ℕ → ℕ → Option Touches → Touches
touched_next c t None = record { clerk = c; last = t; other = 0 }
touched_next c t (Some x) = record { clerk = c; last = t; other = if x.clerk == c then x.other else x.last }

-- which calls touched each object
abbrev pub Known : Type 0
Known = ℕ → Option Touches

abbrev pub touches_in : List ℕ × List (ℕ × Touches) → Known
touches_in t o = held o t

-- a call of another clerk than c touched the object behind the turn t
abbrev pub is_since : ℕ → ℕ → Option Touches → Bool
is_since c t None = false
is_since c t (Some x) = nat_lt t (if x.clerk == c then x.other else x.last)

-- a call of another clerk touched an operand of it since its turn
abbrev pub is_touched : Known → Kept → Bool
is_touched ts k = list_any (λ o. is_since k.clerk k.turn (ts o)) (operands k.update)

-- the turns are below n
abbrev pub AreBelow : ℕ → Option Touches → Type 0
AreBelow n None = ⊤
AreBelow n (Some x) = (x.last < n) × (x.other < n)

-- the operation is pending no more
abbrev pub is_covered : List Start → Kept → Bool
is_covered ss k = not (is_in (pending_of (find (is_start k.clerk k.boot) ss)) k.number)

pub record IsFlagged (base : Base) (past : History) (ss : List Start) (ts : Known) (k : Kept) : Type 0 where
  pub covered : MatchBool (is_covered ss k) (¬ (IsUncovered base past (op_of k))) (IsUncovered base past (op_of k))
  pub touched : MatchBool (is_touched ts k) (¬ (IsUntouched base past (op_of k))) (IsUntouched base past (op_of k))

-- the volume behind those of the first operations that pass, where they fit
pub record IsFrontKept (q : Op → Bool) (ks : List Kept) (n : ℕ) (v : Images) : Type 0 where
  pub fits : Fits formatted (updates (filter q (ops_of (take n ks))))
  pub same : (o : ℕ) → v o ≡ after formatted (updates (filter q (ops_of (take n ks)))) o

-- the volume behind the first operations
pub record IsFirm (ks : List Kept) (n : ℕ) (v : Images) : Type 0 where
  pub within : n ≤ length ks
  pub front : IsFrontKept (λ k. true) ks n v

-- each operand of the operations behind the first ones has an image of its own
abbrev pub AreLaid : List Kept → ℕ → Overlay → Type 0
AreLaid ks n l = Each (λ k. (o : ℕ) → T (member o (operands k.update)) → T (has_own l o)) (drop n ks)

-- the same, and none of the first operations is lost
pub record IsBehind (c b : ℕ) (ns : List ℕ) (ks : List Kept) (n : ℕ) (v : Images) : Type 0 where
  pub within : n ≤ length ks
  pub front : IsFrontKept (λ k. not (is_one_of c b ns k)) ks n v
  pub unlost : list_any (is_among c b ns) (take n ks) ≡ false

-- Objects that are shown as the volume below has them again, while the others are shown as before.

abbrev pub is_noted : Table (Unit {0}) → ℕ → Bool
is_noted t o = is_some (at o t)

pub record IsRestored (old new : Overlay) (noted : ℕ → Bool) : Type 0 where
  pub under : new.under ≡ old.under
  pub shown : (o : ℕ) → shown new o ≡ (if noted o then images old.under o else shown old o)
  pub own : (o : ℕ) → T (has_own old o) → T (has_own new o)
  pub laid : (o : ℕ) → noted o ≡ true → T (has_own new o)

-- the objects of each of these operations are noted
abbrev pub AreNoted : (Kept → Bool) → (ℕ → Bool) → List Kept → Type 0
AreNoted p noted ks = Each (λ k. p k ≡ true → (o : ℕ) → T (member o (operands k.update)) → noted o ≡ true) ks

-- at these objects the volume behind those of the first operations that pass, where they fit there
pub record IsFrontAt (noted : ℕ → Bool) (q : Op → Bool) (ks : List Kept) (n : ℕ) (v : Images) : Type 0 where
  pub fits : (o : ℕ) → noted o ≡ true → T (fits_in_turn o (formatted o) (updates (filter q (ops_of (take n ks)))))
  pub same : (o : ℕ) → noted o ≡ true → v o ≡ after formatted (updates (filter q (ops_of (take n ks)))) o

-- at the other objects the volume behind all that pass
pub record IsWholeBeside (noted : ℕ → Bool) (q : Op → Bool) (ks : List Kept) (v : Images) : Type 0 where
  pub fits : (o : ℕ) → noted o ≡ false → T (fits_in_turn o (formatted o) (updates (filter q (ops_of ks))))
  pub same : (o : ℕ) → noted o ≡ false → v o ≡ after formatted (updates (filter q (ops_of ks))) o

-- the volumes without the lost operations
pub record IsLeft (c b : ℕ) (ns : List ℕ) (ks : List Kept) (f : Firm) : Type 0 where
  pub fits : Fits formatted (updates (filter (λ k. not (is_one_of c b ns k)) (ops_of ks)))
  pub volume : (o : ℕ) → shown f.volume o ≡ after formatted (updates (filter (λ k. not (is_one_of c b ns k)) (ops_of ks))) o
  pub firm : IsFirm (filter (λ k. not (is_among c b ns k)) ks) f.count (images f.volume.under)
  pub laid : AreLaid (filter (λ k. not (is_among c b ns k)) ks) f.count f.volume

pub record Carries (base : Base) (past : History) (j : Judge) : Type 0 where
  pub volume : (o : ℕ) → shown j.firm.volume o ≡ after base.volume (updates (kept base past)) o
  pub kept : ops_of j.kept.items ≡ kept base past
  pub starts : (c b : ℕ) → IsStart base past c b (find (is_start c b) j.starts)
  pub flags : Each (IsFlagged base past j.starts (touches_in j.touches)) j.kept.items
  pub turns : Each (λ k. k.turn < length past) j.kept.items
  pub touches : (o : ℕ) → AreBelow (length past) (touches_in j.touches o)
  pub firm : IsFirm j.kept.items j.firm.count (images j.firm.volume.under)
  pub laid : AreLaid j.kept.items j.firm.count j.firm.volume

-- behind a history of so many entries
pub record HasJudged (past : History) (n : ℕ) (j : Judge) : Type 0 where
  pub carries : Carries from_formatted past j
  pub turn : n ≡ length past

-- What an entry adds.

abbrev pub count_next : ℕ → Option ℕ → ℕ
count_next k None = k
count_next k (Some n) = n

abbrev pub keeps_of : Issuer → Option ℕ → Option Update → List Kept
keeps_of by None u = []
keeps_of by (Some n) None = []
keeps_of by (Some n) (Some u) = record { clerk = by.clerk; boot = by.boot; number = n; place = by.place; turn = by.turn; update = u } ∷ []

-- an update that can be carried out, if any
abbrev pub IsFitting : Option Update → Images → Type 0
IsFitting None v = ⊤
IsFitting (Some u) v = T (is_sound u) × (first_unfit u v (operands u) ≡ None)

-- The rules of a loss, by the kept operations and their marks.

abbrev pub are_kept : ℕ → ℕ → List ℕ → List Kept → Bool
are_kept c b ns ks = list_all (λ n. list_any (λ k. is_among c b (n ∷ []) k) ks) ns

abbrev pub are_uncovered : ℕ → ℕ → List ℕ → List ℕ → List Kept → Bool
are_uncovered c b ns pending ks = list_all (λ k. not (is_among c b ns k) || member k.number pending) ks

abbrev pub are_untouched : ℕ → ℕ → List ℕ → Known → List Kept → Bool
are_untouched c b ns ts ks = list_all (λ k. not (is_touched ts k && is_among c b ns k)) ks

abbrev pub are_closed : ℕ → ℕ → List ℕ → List Kept → Bool
are_closed c b ns ks = is_closed (is_one_of c b ns) (filter (of_start c b) (ops_of ks))

abbrev pub BreaksMarks : ℕ → ℕ → List ℕ → List ℕ → Known → List Kept → Rule → Type 0
BreaksMarks c b ns pending ts ks rule.Named = are_kept c b ns ks ≡ false
BreaksMarks c b ns pending ts ks rule.Covered = (are_kept c b ns ks ≡ true) × (are_uncovered c b ns pending ks ≡ false)
BreaksMarks c b ns pending ts ks rule.Touched = (are_kept c b ns ks ≡ true) × (are_uncovered c b ns pending ks ≡ true) × (are_untouched c b ns ts ks ≡ false)
BreaksMarks c b ns pending ts ks rule.Closed = (are_kept c b ns ks ≡ true) × (are_uncovered c b ns pending ks ≡ true) × (are_untouched c b ns ts ks ≡ true) × (are_closed c b ns ks ≡ false)
BreaksMarks c b ns pending ts ks _ = ⊥

pub record KeepsMarks (c b : ℕ) (ns : List ℕ) (pending : List ℕ) (ts : Known) (ks : List Kept) : Type 0 where
  pub kept : are_kept c b ns ks ≡ true
  pub uncovered : are_uncovered c b ns pending ks ≡ true
  pub untouched : are_untouched c b ns ts ks ≡ true
  pub closed : are_closed c b ns ks ≡ true

-- What the judge does.

-- the kept operations fit, and the volumes are behind them
pub record IsWhole (j : Judge) : Type 0 where
  pub fits : Fits formatted (updates (ops_of j.kept.items))
  pub shown : (o : ℕ) → shown j.firm.volume o ≡ after formatted (updates (ops_of j.kept.items)) o
  pub firm : IsFirm j.kept.items j.firm.count (images j.firm.volume.under)
  pub laid : AreLaid j.kept.items j.firm.count j.firm.volume

-- an entry can be judged: the volume is well formed, the fresh id of its place is free, and so on
pub record EntryIsReady (j : Judge) (e : ℕ × Entry) : Type 0 where
  pub formed : WellFormed (shown j.firm.volume)
  pub gone : T (is_gone (shown j.firm.volume (1 + e.0)))
  pub bounded : T (is_bounded_entry e.1)
  pub sound : T (list_all is_sound (updates (ops_of j.kept.items)))
  pub whole : IsWhole j
  pub rising : (c b : ℕ) → T (is_sorted nat_cmp (of_issue c b (ops_of j.kept.items)))

-- the entry of this turn is legal and carried, or this is the first rule that it breaks
abbrev pub Judges : ℕ → ℕ → Judge → Judge → ℕ × Entry → Option Rule → Type 0
Judges most turn j j' e found =
    (past : History) → turn ≡ length past → Carries from_formatted past j → IsLegal from_formatted most past
    → MatchOption found (IsLegalNext from_formatted most past e × Carries from_formatted (past ++ e ∷ []) j') (λ r. BreaksEntry from_formatted most past e r)

-- The start behind an answered call, and behind a loss with these pairs.

pub record IsNoted (a : Asked) (place : ℕ) (op : Option ℕ) (cl : Call) (out : Outcome) (old : Start) (s : Start) : Type 0 where
  pub clerk : s.clerk ≡ old.clerk
  pub boot : s.boot ≡ old.boot
  pub count : s.pending.0 ≡ count_next old.pending.0 op
  pub owed : s.owed ≡ filter (λ q. not (meets out cl q)) old.owed
  pub pending : s.pending.1 ≡ rest (is_asked a) old.pending.1 ++ issues_of place op out.update

pub record IsOwing (pairs : Owed) (old : Start) (s : Start) : Type 0 where
  pub clerk : s.clerk ≡ old.clerk
  pub boot : s.boot ≡ old.boot
  pub count : s.pending.0 ≡ old.pending.0
  pub owed : s.owed ≡ old.owed ++ pairs
  pub pending : s.pending.1 ≡ old.pending.1
