-- A clerk's cache changes at one object.
use Rattle.std.proofs.Common.{◌≡◌, refl, sym, subst, inl, inr, ◌⊎◌, ℕ, Bool, true, false, not, ◌&&◌, ◌+◌, cond, T, ◌<◌}
use Rattle.std.specs.Prelude.{◌==◌, Option, Some}
use Rattle.ec_base.specs.Tables.{at}
use Rattle.ec_history.specs.History.{Each}
use Rattle.ec_cache.specs.Cache.{last}
use Rattle.ec_cache.specs.declared.state.Held.{Held}
use Rattle.ec_coherence.specs.Tokens.{View, Side, eff, Names, is_untaken, in_sixteen, TokensAgree}
use Rattle.ec_coherence.proofs.ForClerk.Rows.{Moved, still}
use Rattle.ec_coherence.proofs.ForClerk.Sides.{Moves}
use Rattle.ec_base.proofs.Numbers.{equal}

-- a named object is not among the session's own hidden ones
pub seen-name : (w : View) (s : ℕ) (k k' : Side) → w.clerk s ≡ Some k → k'.got ≡ k.got → (x : ℕ) → Names w x → (x < w.next_id) × T (not (is_untaken (w.grants s) (w.first s) (Some k') x))
seen-name w s k k' was got x n = (n.0, subst (λ g. T (not ((g + 1 == w.grants s) && in_sixteen (w.first s) x))) (sym got) (subst (λ o. T (not (is_untaken (w.grants s) (w.first s) o x))) was (n.1 s)))

-- what is held of x becomes p, with the last number m
pub record OneSide (w : View) (s : ℕ) (k k' : Side) (x : ℕ) (p : Option Held) (m : ℕ) : Type 0 where
  pub was : w.clerk s ≡ Some k
  pub epoch : k'.epoch ≡ k.epoch
  pub got : k'.got ≡ k.got
  pub held : (y : ℕ) → at y k'.cache.held ≡ cond (y == x) p (at y k.cache.held)
  pub number : (y : ℕ) → last y k'.cache ≡ cond (y == x) m (last y k.cache)
  pub moved : Moved (at x k.cache.held) p (last x k.cache) m k.epoch (eff w s x)
  pub names : (m ≡ last x k.cache) ⊎ Names w x
  pub recalls : Each (λ r. Names w r.obj) k'.recalls

module _ (w : View) (s : ℕ) (k k' : Side) (x : ℕ) (p : Option Held) (m : ℕ) (agree : TokensAgree w) (one : OneSide w s k k' x p m) where
  row : (y : ℕ) → Moved (at y k.cache.held) (at y k'.cache.held) (last y k.cache) (last y k'.cache) k.epoch (eff w s y)
  row y = subst (λ o. Moved (at y k.cache.held) o (last y k.cache) (last y k'.cache) k.epoch (eff w s y)) (sym (one.held y))
      (subst (λ n. Moved (at y k.cache.held) (cond (y == x) p (at y k.cache.held)) (last y k.cache) n k.epoch (eff w s y)) (sym (one.number y)) (go (y == x) refl))
    where
      go : (b : Bool) → (y == x) ≡ b → Moved (at y k.cache.held) (cond b p (at y k.cache.held)) (last y k.cache) (cond b m (last y k.cache)) k.epoch (eff w s y)
      go true e = subst (λ z. Moved (at z k.cache.held) p (last z k.cache) m k.epoch (eff w s z)) (sym (equal y x e)) one.moved
      go false e = still (at y k.cache.held) (last y k.cache) k.epoch (eff w s y) (agree.holds s y k one.was)

  lasts : (y : ℕ) → (last y k'.cache ≡ last y k.cache) ⊎ ((y < w.next_id) × T (not (is_untaken (w.grants s) (w.first s) (Some k') y)))
  lasts y = subst (λ n. (n ≡ last y k.cache) ⊎ ((y < w.next_id) × T (not (is_untaken (w.grants s) (w.first s) (Some k') y)))) (sym (one.number y)) (go (y == x) refl)
    where
      go : (b : Bool) → (y == x) ≡ b → (cond b m (last y k.cache) ≡ last y k.cache) ⊎ ((y < w.next_id) × T (not (is_untaken (w.grants s) (w.first s) (Some k') y)))
      go true e = subst (λ z. (m ≡ last z k.cache) ⊎ ((z < w.next_id) × T (not (is_untaken (w.grants s) (w.first s) (Some k') z)))) (sym (equal y x e))
          (elim (one.names) [ inl q ↦ inl q | inr n ↦ inr (seen-name w s k k' one.was one.got x n) ])
      go false e = inl refl

  pub one-moves : Moves w s k k'
  one-moves = record { was = one.was; epoch = one.epoch; got = inl one.got; row = row; lasts = lasts; recalls = one.recalls }

-- The cache holds the same.
pub still-moves : (w : View) (s : ℕ) (k k' : Side) → TokensAgree w → w.clerk s ≡ Some k → k'.epoch ≡ k.epoch → k'.got ≡ k.got → ((y : ℕ) → at y k'.cache.held ≡ at y k.cache.held) → ((y : ℕ) → last y k'.cache ≡ last y k.cache)
    → Each (λ r. Names w r.obj) k'.recalls → Moves w s k k'
still-moves w s k k' agree was epoch got held number recalls = record {
  was = was;
  epoch = epoch;
  got = inl got;
  row = λ y. subst (λ o. Moved (at y k.cache.held) o (last y k.cache) (last y k'.cache) k.epoch (eff w s y)) (sym (held y))
      (subst (λ n. Moved (at y k.cache.held) (at y k.cache.held) (last y k.cache) n k.epoch (eff w s y)) (sym (number y)) (still (at y k.cache.held) (last y k.cache) k.epoch (eff w s y) (agree.holds s y k was)));
  lasts = λ y. inl (number y);
  recalls = recalls;
}
