-- What is proved of answers, as contracts name it.
use Rattle.std.specs.Prelude.{◌≡◌, ◌==◌, ◌+◌, ℕ, T, false, not, length, List, [], ◌∷◌, ◌++◌, Option, Some}
use Rattle.std.specs.List.{filter}
use Rattle.ec_base.specs.declared.ids.Age.{Age}
use Rattle.ec_volume.specs.Update.{member, operands, listed}
use Rattle.ec_volume.specs.Volume.{Fits}
use Rattle.ec_history.specs.History.{Op, Each, kept, numbers, updates, of_start, is_one_of, without, Covers}
use Rattle.ec_history.specs.Legal.{IsLegal, IsLawful, is_closed, leaves}
use Rattle.ec_history.specs.declared.entry.Entry.TheVariants as entry
use Rattle.ec_plain.specs.declared.call.Call.{Call}
use Rattle.ec_history.specs.declared.entry.Answer.{Answer}
use Rattle.ec_cache.specs.OfReport.Report.{Owed}
use Rattle.ec_protocol.specs.Clerk.{Doing, verdict}
use Rattle.ec_protocol.specs.declared.clerk.Clerk.{Clerk}
use Rattle.ec_coherence.specs.System.{System, base_of, clerk_in, is_open, undurable}
use Rattle.ec_coherence.specs.Tokens.{TokensAgree, view}
use Rattle.ec_coherence.specs.Log.{HasWrites}
use Rattle.ec_coherence.specs.Events.{EventsAgree, CutAgrees, shown_boot}
use Rattle.ec_coherence.specs.Answers.{IsAnswered, IsLive, Sees, Gives, fresh_of, based}
use Rattle.ec_coherence.specs.Comes.{AnswerComes, DurableAreMarked, entry_next, begun_at, after_answer}

-- an answer of a clerk that isn't cut off may stand at the end of the history, in real ids, and leaves owed what the clerk owes then
abbrev pub AnswersStand : Type 0
AnswersStand = (g : System) (c b : ℕ) (k : Clerk) → EventsAgree g → g.running c ≡ Some b → g.clerks c b ≡ Some k → IsLive g c k → Sees g k
    → (most l begun : ℕ) (cl : Call) (a : Answer) (op : Option ℕ) (rest : Owed) → Gives most k (verdict cl k) a op rest
    → IsAnswered (based g (fresh_of k)) most g.ghost.history c (shown_boot g c b) (length g.ghost.shown + 1) l begun cl a op rest

-- behind it all facts of histories stand
abbrev pub AnswersKeep : Type 0
AnswersKeep = (g : System) (c b : ℕ) (k : Clerk) (d : Doing) (l : ℕ) (cl : Call) (a : Answer) (op : Option ℕ) → EventsAgree g → g.running c ≡ Some b → g.clerks c b ≡ Some k → IsLive g c k → Sees g k
    → AnswerComes g c b k d l cl a op → EventsAgree (after_answer g c b k d l cl a op)

-- the answer of an open session's clerk touches no operand of what another open session may lose
abbrev pub AnswersLeaveOthers : Type 0
AnswersLeaveOthers = (g : System) → EventsAgree g → TokensAgree (view g) → Each (λ o. T (not (g.ghost.is_durable o)) → HasWrites g o) g.ghost.kept → (c b s : ℕ) (age : Age) (k : Clerk) → DurableAreMarked g c k
    → clerk_in g s ≡ Some k → T (is_open g s) → g.ghost.owner s ≡ Some (c, age) → g.running c ≡ Some b → g.clerks c b ≡ Some k → IsLive g c k → Sees g k
    → (most l : ℕ) (cl : Call) (a : Answer) (op : Option ℕ) (rest : Owed) → Gives most k (verdict cl k) a op rest → (u : ℕ) (o : ℕ × Age) → g.ghost.owner u ≡ Some o → T (is_open g u) → (o.0 == c) ≡ false
    → T (leaves (based g (fresh_of k)) (kept (based g (fresh_of k)) g.ghost.history) o.0 (filter (is_one_of o.0 (shown_boot g o.0 (o.1).boot) (numbers (undurable g.ghost u))) (kept (based g (fresh_of k)) g.ghost.history)) (entry_next g c b l cl a op))

-- the answer of a clerk that is cut off may stand before its loss, which then names its operation too
abbrev pub LateAnswersStand : Type 0
LateAnswersStand = (g : System) → EventsAgree g → (c b s : ℕ) (k : Clerk) (ks : List Op) → g.running c ≡ Some b → g.clerks c b ≡ Some k → k.session ≡ Some s → g.ghost.owner s ≡ Some (c, k.age) → g.ghost.frozen s ≡ Some ks → Sees g k
    → (l : ℕ) (cl : Call) (a : Answer) (op : Option ℕ) (rest : Owed) → Gives g.durable.max_objects k (verdict cl k) a op rest → TokensAgree (view g) → clerk_in g s ≡ Some k
    → (z : CutAgrees g c b s k ks)
    × (IsAnswered (based g (fresh_of k)) g.durable.max_objects z.before c (shown_boot g c b) (length g.ghost.shown + 1) l (begun_at g c b l) cl a op rest)
    × (Each (λ o. (o.clerk == c) ≡ false → T (member (fresh_of k) (operands o.update)) → ⊥) (kept (based g (fresh_of k)) z.before)
    → Each (λ n. ¬ (Covers (based g (fresh_of k)) z.before (entry_next g c b l cl a op) c (shown_boot g c b) n)) z.lost
    → IsLegal (based g (fresh_of k)) g.durable.max_objects (z.before ++ entry_next g c b l cl a op ∷ [] ++ (z.at, entry.Loss c (shown_boot g c b) (z.lost ++ listed op)) ∷ z.behind))

-- what an open session may lose may be lost, where it is closed and the rest fits
abbrev pub EndsAreLawful : Type 0
EndsAreLawful = (g : System) → EventsAgree g → (s : ℕ) (o : ℕ × Age) → g.ghost.owner s ≡ Some o → T (is_open g s)
    → T (is_closed (is_one_of o.0 (shown_boot g o.0 (o.1).boot) (numbers (undurable g.ghost s))) (filter (of_start o.0 (shown_boot g o.0 (o.1).boot)) (kept (base_of g) g.ghost.history)))
    → Fits g.origin (updates (without o.0 (shown_boot g o.0 (o.1).boot) (numbers (undurable g.ghost s)) (kept (base_of g) g.ghost.history)))
    → IsLawful (base_of g) g.ghost.history o.0 (shown_boot g o.0 (o.1).boot) (numbers (undurable g.ghost s))
