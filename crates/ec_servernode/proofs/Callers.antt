-- What goes to outboxes, and what to the link that asked.
use Rattle.std.proofs.Common.{◌≡◌, ℕ, ◌<◌, ◌≤◌, List, [], ◌∷◌, length, Option, Some, None, refl, sym, ap, arith}
use Rattle.std.specs.Prelude.{slice_index_or, remove}
use Rattle.ec_wire.specs.declared.msg.Msg.{Msg}
use Rattle.ec_servernode.specs.declared.caller.Refusal.{Refusal}
use Rattle.ec_servernode.specs.Callers.{refusal_of, refusal_in, unless, posted}

pub refusal_first : (sent : List (ℕ × Msg)) (x : ℕ × Msg) → 0 < length sent → x ≡ slice_index_or sent 0 x → refusal_of x.1 ≡ refusal_in sent
refusal_first [] x some e = absurd (omega arith)
refusal_first (y ∷ ys) x some e = ap (λ (z : ℕ × Msg). refusal_of z.1) e

pub refusal_none : (sent : List (ℕ × Msg)) → length sent ≤ 0 → None ≡ refusal_in sent
refusal_none [] none = refl
refusal_none (y ∷ ys) none = absurd (omega arith)

pub has_first : (sent : List (ℕ × Msg)) (r : Refusal) → refusal_in sent ≡ Some r → 0 < length sent
has_first [] r e = absurd (cc e)
has_first (x ∷ xs) r e = omega arith

pub posted_all : (sent : List (ℕ × Msg)) → refusal_in sent ≡ None → sent ≡ posted sent
posted_all [] e = refl
posted_all (x ∷ xs) e = ap (λ o. unless o xs (x ∷ xs)) (sym e)

pub posted_rest : (sent : List (ℕ × Msg)) (r : Refusal) → refusal_in sent ≡ Some r → remove sent 0 ≡ posted sent
posted_rest [] r e = absurd (cc e)
posted_rest (x ∷ xs) r e = ap (λ o. unless o xs (x ∷ xs)) (sym e)
