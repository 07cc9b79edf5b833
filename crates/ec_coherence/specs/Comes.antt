-- What an answer's line needs besides its verdict.
use Rattle.std.specs.Prelude.{◌≡◌, ◌<◌, ◌==◌, ◌+◌, ℕ, T, false, not, if◌then◌else◌, List, length, Option, Some, is_some}
use Rattle.std.specs.List.{filter, list_any}
use Rattle.ec_base.specs.declared.ids.Age.{Age}
use Rattle.ec_volume.specs.Update.{member, operands}
use Rattle.ec_plain.specs.declared.call.Call.{Call}
use Rattle.ec_history.specs.History.{Op, Each, kept, numbers, is_one_of, Covers}
use Rattle.ec_history.specs.Legal.{leaves}
use Rattle.ec_history.specs.Placing.{unwatched, last_place, before_line, MayFollow}
use Rattle.ec_history.specs.declared.entry.Answer.{Answer}
use Rattle.ec_history.specs.declared.entry.Entry.{Entry}
use Rattle.ec_history.specs.declared.entry.Entry.TheVariants as entry
use Rattle.ec_history.specs.declared.shown.Shown.TheVariants.{Answered}
use Rattle.ec_protocol.specs.Clerk.{Doing, verdict}
use Rattle.ec_protocol.specs.declared.clerk.Clerk.{Clerk}
use Rattle.ec_coherence.specs.System.{System, is_open, undurable}
use Rattle.ec_coherence.specs.Events.{shown_boot, same_op}
use Rattle.ec_coherence.specs.Steps.{doing_in}
use Rattle.ec_coherence.specs.Answers.{Gives, op_given, fresh_of, based, answered_ghost}

-- the place that a call's entry names as its beginning
abbrev pub begun_at : System → ℕ → ℕ → ℕ → ℕ
begun_at g c b l = last_place c (shown_boot g c b) unwatched 1 0 (before_line l g.ghost.shown)

-- the entry of an answer shown next
abbrev pub entry_next : System → ℕ → ℕ → ℕ → Call → Answer → Option ℕ → ℕ × Entry
entry_next g c b l cl a op = (length g.ghost.shown + 1, entry.Call c (shown_boot g c b) l (begun_at g c b l) cl a op)

abbrev pub ops_next : System → ℕ → ℕ → Call → Clerk → List Op
ops_next g c b cl k = op_given c b (length g.ghost.shown + 1) k (verdict cl k)

abbrev pub after_answer : System → ℕ → ℕ → Clerk → Doing → ℕ → Call → Answer → Option ℕ → System
after_answer g c b k d l cl a op = doing_in c b d (answered_ghost c l cl a op (fresh_of k) (ops_next g c b cl k) g.ghost) g

pub record AnswerComes (g : System) (c b : ℕ) (k : Clerk) (d : Doing) (l : ℕ) (cl : Call) (a : Answer) (op : Option ℕ) : Type 0 where
  -- the machine's: the answer is the verdict's, and the clerk is changed so
  pub gives : Gives g.durable.max_objects k (verdict cl k) a op d.clerk.owed
  pub age : d.clerk.age ≡ k.age
  pub next : d.clerk.log.next ≡ (if is_some op then k.log.next + 1 else k.log.next)
  -- of lines: the call's line is its own, not answered, and may show the session
  pub line : MayFollow g.ghost.shown (Answered l c cl a op)
  -- what it covers is durable
  pub settled : (o : Op) → Covers (based g (fresh_of k)) g.ghost.history (entry_next g c b l cl a op) o.clerk (shown_boot g o.clerk o.boot) o.number → T (g.ghost.is_durable o)
  -- it touches no operand of what others' sessions may still lose
  pub leaves_others : (s : ℕ) (o : ℕ × Age) → g.ghost.owner s ≡ Some o → T (is_open g s) → (o.0 == c) ≡ false
      → T (leaves (based g (fresh_of k)) (kept (based g (fresh_of k)) g.ghost.history) o.0 (filter (is_one_of o.0 (shown_boot g o.0 (o.1).boot) (numbers (undurable g.ghost s))) (kept (based g (fresh_of k)) g.ghost.history)) (entry_next g c b l cl a op))
  -- its operation is new: no clerk that is cut off saw it
  pub unseen : (s : ℕ) (ks : List Op) → g.ghost.frozen s ≡ Some ks → Each (λ o. T (list_any (λ j. same_op j o) ks) → ⊥) (ops_next g c b cl k)

-- The durable operations are told by start and number; starts stand above the first boots; a clerk's free ids are no operands of others.
pub record DurableAreMarked (g : System) (c : ℕ) (k : Clerk) : Type 0 where
  pub alike : (i j : Op) → i.clerk ≡ j.clerk → i.boot ≡ j.boot → i.number ≡ j.number → g.ghost.is_durable i ≡ g.ghost.is_durable j
  pub above : Each (λ o. g.first_boot o.clerk < o.boot) g.ghost.kept
  pub opened : (s : ℕ) (o : ℕ × Age) → g.ghost.owner s ≡ Some o → T (is_open g s) → g.first_boot o.0 < (o.1).boot
  pub invisible : Each (λ o. (o.clerk == c) ≡ false → T (not (g.ghost.is_durable o)) → T (member (fresh_of k) (operands o.update)) → ⊥) g.ghost.kept
