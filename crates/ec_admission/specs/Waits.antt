-- How many wants wait. No public clause cites this file.
use Rattle.std.proofs.Common.{◌≡◌, ◌≤◌, sym, subst, arith, ℕ, suc, Bool, true, false, cond, not, List, [], ◌∷◌, Result, Ok, Err, length, filter}
use Rattle.std.specs.Prelude.{◌==◌, ◌+◌, OnOk, OnErr}
use Rattle.ec_base.specs.declared.ids.Hold.{Hold}
use Rattle.ec_base.specs.Holds.{stronger}
use Rattle.ec_sessions.specs.OfTokens.Tokens.{Tokens}
use Rattle.ec_sessions.specs.OfRecall.Wants.{noted, is_of}
use Rattle.ec_sessions.specs.declared.recall.want.Want.{Want}
use Rattle.ec_sessions.specs.OfRecall.Due.{wants_after}
use Rattle.ec_sessions.specs.OfRecall.Laws.{counted}

pub noted_longer : (s x : ℕ) (h : Hold) (ws : List Want) → length (noted s x h ws) ≤ suc (length ws)
noted_longer s x h [] = omega arith
noted_longer s x h (w ∷ ws) = go (is_of s x w) (noted_longer s x h ws)
  where
    go : (b : Bool) → length (noted s x h ws) ≤ suc (length ws) → length (cond b (record w { hold = stronger w.hold h; told = [] } ∷ ws) (w ∷ noted s x h ws)) ≤ suc (suc (length ws))
    go true h = omega arith
    go false h = omega (arith, h)

pub fewer : (p : Want → Bool) (ws : List Want) → length (filter p ws) ≤ length ws
fewer p [] = omega arith
fewer p (w ∷ ws) = go (p w) (fewer p ws)
  where
    go : (b : Bool) → length (filter p ws) ≤ length ws → length (cond b (w ∷ filter p ws) (filter p ws)) ≤ length (w ∷ ws)
    go true h = omega (arith, h)
    go false h = omega (arith, h)

pub drop_bound : (s : ℕ) (old new : List Want) (n : ℕ) → new ≡ filter (λ w. not (w.session == s)) old → length old ≤ n → length new ≤ n
drop_bound s old new n p h = subst (λ (ws : List Want). length ws ≤ n) (sym p) (omega (arith, fewer (λ w. not (w.session == s)) old, h))

pub none_more : (ts : Tokens) (ws : List Want) → length (wants_after ts ws) ≤ length ws
none_more ts ws = omega (arith, counted ts ws)

pub due_bound : {U F : Type 0} (res : Result U F) (ts : Tokens) (old new : List Want) (n : ℕ) → OnOk res (new ≡ wants_after ts old) → OnErr res (new ≡ old) → length old ≤ n → length new ≤ n
due_bound (Ok u) ts old new n p q h = subst (λ (ws : List Want). length ws ≤ n) (sym p) (omega (arith, none_more ts old, h))
due_bound (Err f) ts old new n p q h = subst (λ (ws : List Want). length ws ≤ n) (sym q) h

pub want_bound : {U F : Type 0} (res : Result U F) (s x : ℕ) (hold : Hold) (old new : List Want) (n : ℕ) → OnOk res (new ≡ noted s x hold old) → OnErr res (new ≡ old) → length old ≤ n → length new ≤ n + 1
want_bound (Ok u) s x hold old new n p q h = subst (λ (ws : List Want). length ws ≤ n + 1) (sym p) (omega (arith, noted_longer s x hold old, h))
want_bound (Err f) s x hold old new n p q h = subst (λ (ws : List Want). length ws ≤ n + 1) (sym q) (omega (arith, h))
