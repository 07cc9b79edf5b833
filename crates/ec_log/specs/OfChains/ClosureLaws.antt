-- Laws on closures of the operations that pass a test. Crates above cite them.
use Rattle.std.proofs.Common.{◌≡◌, refl, sym, ap, subst, ◌∙◌, inl, inr, arith, ◌<◌, ℕ, Bool, true, false, cond, [], ◌∷◌}
use Rattle.std.specs.Prelude.{T, ◌==◌, ◌||◌}
use Rattle.std.specs.Ordering.{nat_cmp, is_lt}
use Rattle.std.specs.FinMap.{is_sorted}
use Rattle.std.specs.FinMap.Entries.{below_all}
use Rattle.std.specs.List.{filter, list_any}
use Rattle.std.proofs.lemmas.Bool.Decides.{nat_tests}
use Rattle.ec_base.specs.SortedLaws.{first, second}
use Rattle.ec_base.specs.Tables.{keys}
use Rattle.ec_volume.specs.Update.{member}
use Rattle.ec_volume.specs.declared.update.Update.{Update}
use Rattle.ec_order.specs.Order.{Issued, Holds, needs, closure}
use Rattle.ec_log.specs.OfChains.Walk.{walk}

-- a test of numbers that agrees on these operations
pub walk-closure : (p : ℕ × Update → Bool) (q : ℕ → Bool) (xs : Issued) → ((n : ℕ) (u : Update) → Holds xs n u → p (n, u) ≡ q n) → walk p xs ≡ closure q xs
walk-closure p q [] h = refl
walk-closure p q (x ∷ xs) h =
    ap (λ b. cond (b || list_any (λ y. needs x.1 y.1) (walk p xs)) (x ∷ walk p xs) (walk p xs)) (h x.0 x.1 (inl (refl, refl)))
    ∙ ap (λ l. cond (q x.0 || list_any (λ y. needs x.1 y.1) l) (x ∷ l) l) (walk-closure p q xs (λ n u k. h n u (inr k)))

lower : (m n : ℕ) → T (is_lt (nat_cmp m n)) → m < n
lower m n l = grind (arith, nat_tests, l)

same : (n m : ℕ) → m ≡ n → (n == m) ≡ true
same n m e = grind (arith, nat_tests)

above : (n m : ℕ) → m < n → (n == m) ≡ false
above n m l = grind (arith, nat_tests)

below : (n m : ℕ) → n < m → (n == m) ≡ false
below n m l = grind (arith, nat_tests)

pub above-held : (m : ℕ) (xs : Issued) → T (below_all nat_cmp m xs) → (n : ℕ) (u : Update) → Holds xs n u → m < n
above-held m [] b n u h = absurd h
above-held m (x ∷ xs) b n u (inl e) = subst (λ k. m < k) e.0 (lower m x.0 (first _ _ b))
above-held m (x ∷ xs) b n u (inr h) = above-held m xs (second _ _ b) n u h

module _ (p : ℕ × Update → Bool) where
  absent : (n : ℕ) (xs : Issued) → T (below_all nat_cmp n xs) → member n (keys (filter p xs)) ≡ false
  absent n [] b = refl
  absent n (x ∷ xs) b = go (p x) (below n x.0 (lower n x.0 (first _ _ b))) (absent n xs (second _ _ b))
    where
      go : (t : Bool) → (n == x.0) ≡ false → member n (keys (filter p xs)) ≡ false → member n (keys (cond t (x ∷ filter p xs) (filter p xs))) ≡ false
      go true e r = ap (λ t. t || member n (keys (filter p xs))) e ∙ r
      go false e r = r

  -- of rising operations, the numbers of those that pass are those at which the test gives true
  pub passes-member : (xs : Issued) → T (is_sorted nat_cmp xs) → (n : ℕ) (u : Update) → Holds xs n u → p (n, u) ≡ member n (keys (filter p xs))
  passes-member [] s n u h = absurd h
  passes-member (x ∷ xs) s n u (inl e) =
      subst (λ k. p (k, u) ≡ member k (keys (filter p (x ∷ xs)))) e.0 (subst (λ w. p (x.0, w) ≡ member x.0 (keys (filter p (x ∷ xs)))) e.1 (go (p x) refl))
    where
      go : (t : Bool) → p x ≡ t → p x ≡ member x.0 (keys (cond t (x ∷ filter p xs) (filter p xs)))
      go true q = q ∙ sym (ap (λ t. t || member x.0 (keys (filter p xs))) (same x.0 x.0 refl))
      go false q = q ∙ sym (absent x.0 xs (first _ _ s))
  passes-member (x ∷ xs) s n u (inr h) = passes-member xs (second _ _ s) n u h ∙ go (p x) (above n x.0 (above-held x.0 xs (first _ _ s) n u h))
    where
      go : (t : Bool) → (n == x.0) ≡ false → member n (keys (filter p xs)) ≡ member n (keys (cond t (x ∷ filter p xs) (filter p xs)))
      go true e = sym (ap (λ t. t || member n (keys (filter p xs))) e)
      go false e = refl

  -- the closure of those that pass
  pub walk-passing : (xs : Issued) → T (is_sorted nat_cmp xs) → walk p xs ≡ closure (λ n. member n (keys (filter p xs))) xs
  walk-passing xs s = walk-closure p (λ n. member n (keys (filter p xs))) xs (passes-member xs s)

  pub walk-none : (xs : Issued) → list_any p xs ≡ false → walk p xs ≡ []
  walk-none [] h = refl
  walk-none (x ∷ xs) h = go (p x) refl h (walk-none xs)
    where
      go : (t : Bool) → p x ≡ t → (t || list_any p xs) ≡ false → (list_any p xs ≡ false → walk p xs ≡ []) → walk p (x ∷ xs) ≡ []
      go true q h r = absurd (subst T h tt)
      go false q h r = ap (λ t. cond (t || list_any (λ y. needs x.1 y.1) (walk p xs)) (x ∷ walk p xs) (walk p xs)) q ∙ ap (λ l. cond (list_any (λ y. needs x.1 y.1) l) (x ∷ l) l) (r h)

  pub walk-some : (xs : Issued) → list_any p xs ≡ true → walk p xs ≡ [] → ⊥
  walk-some [] h e = subst T (sym h) tt
  walk-some (x ∷ xs) h e = go (p x || list_any (λ y. needs x.1 y.1) (walk p xs)) refl e (walk-some xs)
    where
      filled : (l : Issued) → ◌≡◌ {A = Issued} (x ∷ l) [] → ⊥
      filled l e = cc

      go : (t : Bool) → (p x || list_any (λ y. needs x.1 y.1) (walk p xs)) ≡ t → cond t (x ∷ walk p xs) (walk p xs) ≡ [] → (list_any p xs ≡ true → walk p xs ≡ [] → ⊥) → ⊥
      go true q e r = filled (walk p xs) e
      go false q e r = r (rest (p x) q h) e
        where
          rest : (t : Bool) → (t || list_any (λ y. needs x.1 y.1) (walk p xs)) ≡ false → (t || list_any p xs) ≡ true → list_any p xs ≡ true
          rest true q h = absurd (subst T q tt)
          rest false q h = h

-- the closure of all
pub walk-all : (xs : Issued) → walk (λ x. true) xs ≡ xs
walk-all [] = refl
walk-all (x ∷ xs) = ap (λ l. x ∷ l) (walk-all xs)

-- an operation is there
pub there-member : (op : ℕ) (xs : Issued) → list_any (λ x. x.0 == op) xs ≡ member op (keys xs)
there-member op [] = refl
there-member op (x ∷ xs) = ap (λ b. b || list_any (λ y. y.0 == op) xs) (turned x.0 op) ∙ ap (λ b. op == x.0 || b) (there-member op xs)
  where
    turned : (m n : ℕ) → (m == n) ≡ (n == m)
    turned m n = grind (arith, nat_tests)
