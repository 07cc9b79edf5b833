-- Sixteen ids, one after another.
use Rattle.std.proofs.Common.{◌≡◌, ◌<◌, ◌≤◌, sym, ap, ◌∙◌, arith, ℕ, suc, List, ◌∷◌}
use Rattle.std.specs.Prelude.{◌+◌, ◌-◌}
use Rattle.ec_sessions.specs.Slots as slots
use Rattle.ec_sessions.specs.OfTokens.Tokens.{Tokens}
use Rattle.ec_protocol.specs.Server.{with_ids}

pub run_step : (from k : ℕ) → k < 16 → slots.run (from + k) (16 - k) ≡ (from + k) ∷ slots.run (from + (k + 1)) (16 - (k + 1))
run_step from k h =
    let more : 16 - k ≡ suc (16 - (k + 1)) = omega arith in
    let next : (from + k) + 1 ≡ from + (k + 1) = omega arith in
    ap (λ n. slots.run (from + k) n) more ∙ ap (λ n. (from + k) ∷ slots.run n (16 - (k + 1))) next

pub ids_begin : (ss n from : ℕ) (ts : Tokens) → with_ids ss n (slots.run (from + 0) 16) ts ≡ with_ids ss n (slots.run from 16) ts
ids_begin ss n from ts = let same : from + 0 ≡ from = omega arith in ap (λ m. with_ids ss n (slots.run m 16) ts) same

pub ids_step : (ss n from k x : ℕ) (ts us : Tokens) → k < 16 → x ≡ from + k → ((xs : List ℕ) → with_ids ss n (x ∷ xs) ts ≡ with_ids ss n xs us)
    → with_ids ss n (slots.run (from + k) (16 - k)) ts ≡ with_ids ss n (slots.run (from + (k + 1)) (16 - (k + 1))) us
ids_step ss n from k x ts us h is f =
    ap (λ xs. with_ids ss n xs ts) (run_step from k h) ∙ ap (λ m. with_ids ss n (m ∷ slots.run (from + (k + 1)) (16 - (k + 1))) ts) (sym is) ∙ f (slots.run (from + (k + 1)) (16 - (k + 1)))

pub ids_end : (ss n from k : ℕ) (ts : Tokens) → 16 ≤ k → with_ids ss n (slots.run (from + k) (16 - k)) ts ≡ ts
ids_end ss n from k ts h = let none : 16 - k ≡ 0 = omega arith in ap (λ m. with_ids ss n (slots.run (from + k) m) ts) none
