-- The end of a clerk's step, in its session: the token facts stay, where what its calls need is known at each state between.
use Rattle.std.proofs.Common.{◌≡◌, refl, ℕ, T, ◌≤◌, List, [], ◌∷◌, ◌++◌}
use Rattle.ec_history.specs.History.{Each}
use Rattle.ec_wire.specs.Messages.{is_held_mode}
use Rattle.ec_protocol.specs.declared.clerk.Waiting.{Waiting}
use Rattle.ec_protocol.specs.Clerk.{Doing, Tried, Waits, Answered, try, verdict, need_of, answer_recalls, ask_pushes, evict, settle}
use Rattle.ec_coherence.specs.Clerks.{acting}
use Rattle.ec_coherence.specs.Tokens.{View, Names}
use Rattle.ec_coherence.proofs.ForClerk.Evict.{goes-evict}
use Rattle.ec_coherence.proofs.ForClerk.GiveBack.{goes-answer-recalls}
use Rattle.ec_coherence.proofs.ForClerk.Goes.{Goes, goes-rest, goes-ask-pushes}
use Rattle.ec_coherence.proofs.ForClerk.KeyedSteps.{Keyed, keyed-try, keyed-recalls, keyed-pushes, keyed-evict}
use Rattle.ec_coherence.proofs.ForClerk.Settling.{Keeping, settle-keeps}
use Rattle.ec_coherence.proofs.ForClerk.Try.{goes-try}
use Rattle.ec_coherence.proofs.ForClerk.TriedList.{keeping}

-- Q stands for the other families: it says what the calls need, and is kept by each small function.
module _ (w : View) (c s : ℕ) (d : Doing) (next : w.next_token ≤ w.next_id) (Q : Doing → Type 0)
    (needs : (e : Doing) → Q e → (p : Waiting) → Each (λ q. T (is_held_mode q.1) × Names (acting w c s d) q.0) (need_of (verdict p.call e.clerk)))
    (tries : (before : List Waiting) (p : Waiting) (ws : List Waiting) (e : Doing) → Q e → e.clerk.waiting ≡ before ++ p ∷ ws → Keeping Q before p ws (try p e))
    (recalls : (e : Doing) → Q e → Q (answer_recalls e)) (pushes : (e : Doing) → Q e → Q (ask_pushes e)) (evicts : (e : Doing) → Q e → Q (evict e)) where
  abbrev All : Doing → Type 0
  All e = Goes w c s d e × Keyed e × Q e

  try-all : (before : List Waiting) (p : Waiting) (ws : List Waiting) (e : Doing) → All e → e.clerk.waiting ≡ before ++ p ∷ ws → Keeping All before p ws (try p e)
  try-all before p ws e h q = join (try p e)
      (keeping (Goes w c s d) (λ vs f g. goes-rest w c s d f g (record (f.clerk) { waiting = vs }) refl refl) before p ws e q (goes-try w c s d p e h.0 (needs e h.2 p)))
      (keyed-try before p ws e h.1 q) (tries before p ws e h.2 q)
    where
      join : (t : Tried) → Keeping (Goes w c s d) before p ws t → Keeping Keyed before p ws t → Keeping Q before p ws t → Keeping All before p ws t
      join (Waits f) a b z = ((a.0, b.0, z.0), a.1)
      join (Answered f) a b z = (a, b, z)

  pub goes-settle : (e : Doing) → All e → All (settle e)
  goes-settle = settle-keeps All try-all
      (λ e h. (goes-answer-recalls w c s d e h.0, keyed-recalls e.clerk.recalls (record e { clerk = record (e.clerk) { recalls = [] } }) h.1, recalls e h.2))
      (λ e h. (goes-ask-pushes w c s d e h.0, keyed-pushes e.clerk.pushes (record e { clerk = record (e.clerk) { pushes = [] } }) h.1, pushes e h.2))
      (λ e h. (goes-evict w c s d e h.0 next h.1, keyed-evict e h.1, evicts e h.2))
