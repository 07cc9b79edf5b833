-- Which histories are legal: each answer that of the plain volume, each report exact, each loss lawful.
use Rattle.std.specs.Prelude.{◌≡◌, ◌==◌, ◌+◌, ℕ, T, Bool, true, false, not, ◌&&◌, ◌||◌, nat_lt, List, [], ◌∷◌, length, Option, None, Some, is_some, ⊤}
use Rattle.std.specs.List.{filter, list_any, list_all}
use Rattle.ec_volume.specs.Update.{operands, member, is_make}
use Rattle.ec_volume.specs.Volume.{Fits, formatted}
use Rattle.ec_volume.specs.declared.update.Update.{Update}
use Rattle.ec_plain.specs.declared.call.Call.{Call}
use Rattle.ec_plain.specs.declared.call.Outcome.{Outcome}
use Rattle.ec_order.specs.Order as order
use Rattle.ec_history.specs.History.{Base, History, Op, updates, same_start, of_start, is_one_of, outcome, kept, without, touched, Throughout, Each, Covers, due}
use Rattle.ec_history.specs.declared.entry.Answer.{Answer}
use Rattle.ec_history.specs.declared.entry.Answer.TheVariants as answer
use Rattle.ec_history.specs.declared.entry.Entry.{Entry}
use Rattle.ec_history.specs.declared.entry.Entry.TheVariants as entry

-- Calls.

-- how many operations of the start stand in the history
abbrev pub is_op_of : ℕ → ℕ → ℕ × Entry → Bool
is_op_of c b (p, entry.Call d e l begun cl a op) = same_start c b d e && is_some op
is_op_of c b (p, entry.Loss d e ns) = false

-- the operation's number, if any, is the next of its start
abbrev pub IsNext : ℕ → ℕ → History → Option ℕ → Type 0
IsNext c b past None = ⊤
IsNext c b past (Some n) = n ≡ length (filter (is_op_of c b) past) + 1

-- Reports: lost exactly where something is due, and exactly that.
abbrev pub IsReported : List ℕ → Answer → Type 0
IsReported ns (answer.Lost ms) = (ms ≡ ns) × T (nat_lt 0 (length ns))
IsReported ns _ = ns ≡ []

abbrev pub is_making : Option Update → Bool
is_making (Some u) = is_make u
is_making None = false

-- No room: for a new object alone, and where 16 ids more are too many.
abbrev pub IsFull : ℕ → Outcome → Answer → Type 0
IsFull most out (answer.NoRoom live reserved) = T (is_making out.update) × T (nat_lt most (live + reserved + 16))
IsFull most out _ = ⊤

-- Replies: those of the outcome, with an operation exactly where it has an update. Other answers have none.
abbrev pub IsReply : Outcome → Answer → Option ℕ → Type 0
IsReply out (answer.Reply r) op = (r ≡ out.reply) × (is_some op ≡ is_some out.update)
IsReply out _ op = op ≡ None

-- A call may stand behind a history.
pub record IsCall (base : Base) (most : ℕ) (past : History) (c b p : ℕ) (cl : Call) (a : Answer) (op : Option ℕ) : Type 0 where
  pub number : IsNext c b past op
  pub report : IsReported (due base past c b p cl) a
  pub room : IsFull most (outcome base (kept base past) p cl) a
  pub reply : IsReply (outcome base (kept base past) p cl) a op

-- Losses.

abbrev pub is_call_of_other : ℕ → Entry → Bool
is_call_of_other c (entry.Call d e l begun cl a op) = not (c == d)
is_call_of_other c (entry.Loss d e ns) = false

-- behind the operations ks, the entry touched no operand of the operations ls
abbrev pub touches_none : Base → List Op → List Op → ℕ × Entry → Bool
touches_none base ks ls e = list_all (λ k. not (list_any (λ o. member o (touched base ks e)) (operands k.update))) ls

-- the entry is no call of another clerk, or it touched no operand of these operations
abbrev pub leaves : Base → List Op → ℕ → List Op → ℕ × Entry → Bool
leaves base ks c ls e = not (is_call_of_other c e.1) || touches_none base ks ls e

-- of these operations, in the order of issue, none outside is ordered after one inside
abbrev pub is_closed : (Op → Bool) → List Op → Bool
is_closed inside [] = true
is_closed inside (k ∷ ks) = (not (inside k) || list_all (λ j. inside j || not (order.before k.update j.update)) ks) && is_closed inside ks

-- A loss of the operations ns of the start c, b is lawful: they are kept so far, none is covered, no other clerk touched them,
-- none kept is ordered after them, and what is left fits.
pub record IsLawful (base : Base) (past : History) (c b : ℕ) (ns : List ℕ) : Type 0 where
  pub kept_so_far : T (list_all (λ n. list_any (is_one_of c b (n ∷ [])) (kept base past)) ns)
  pub uncovered : Throughout (λ h e. Each (λ n. ¬ (Covers base h e c b n)) ns) [] past
  pub untouched : Throughout (λ h e. T (leaves base (kept base h) c (filter (is_one_of c b ns) (kept base h)) e)) [] past
  pub closed : T (is_closed (is_one_of c b ns) (filter (of_start c b) (kept base past)))
  pub fits : Fits base.volume (updates (without c b ns (kept base past)))

-- Legal histories.

abbrev pub IsLegalNext : Base → ℕ → History → ℕ × Entry → Type 0
IsLegalNext base most past (p, entry.Call c b l begun cl a op) = IsCall base most past c b p cl a op
IsLegalNext base most past (p, entry.Loss c b ns) = IsLawful base past c b ns

-- Each entry keeps its rules behind what stands before it. `most` is the greatest number of objects.
abbrev pub IsLegal : Base → ℕ → History → Type 0
IsLegal base most h = Throughout (IsLegalNext base most) [] h

-- The base of a transcript that began on a formatted volume: the fresh id at a place is the root's id plus the place.
abbrev pub from_formatted : Base
from_formatted = record { volume = formatted; fresh = λ place. 1 + place }
