-- Operations by their places.
use Rattle.std.proofs.Common.{◌≡◌, ◌≤◌, ◌<◌, ◌+◌, ◌∙◌, inl, inr, refl, sym, ap, subst, arith, ℕ, zero, suc, T, true, false, cond, List, [], ◌∷◌, length, take, drop, Option, None, Some}
use Rattle.std.specs.Prelude.{◌==◌, nat_lt, slice_get}
use Rattle.std.specs.declared.cmp.Ordering.TheVariants.{Equal}
use Rattle.std.specs.Cmp.{unsigned_ties}
use Rattle.std.specs.Ordering.{nat_cmp, is_eq}
use Rattle.std.specs.FinMap.{is_sorted}
use Rattle.std.proofs.lemmas.Bool.{cases_Bool, ltb-true}
use Rattle.std.proofs.lemmas.Bool.Decides.{nat_tests}
use Rattle.ec_base.specs.SortedLaws.{first, second}
use Rattle.ec_base.specs.Tables.{Table, at}
use Rattle.ec_volume.specs.declared.update.Update.{Update}
use Rattle.ec_order.specs.Order.{Issued, Holds}
use Rattle.ec_log.specs.OfChains.Chains.{AreLinked}
use Rattle.ec_log.specs.OfChains.ClosureLaws.{above-held}

pub no-item : {X : Type 0} {x : X} → ◌≡◌ {A = Option X} None (Some x) → ⊥
no-item e = cc

pub same-item : {X : Type 0} {x y : X} → ◌≡◌ {A = Option X} (Some x) (Some y) → x ≡ y
same-item e = cc

pub item-at : (xs : Issued) (i : ℕ) → i < length xs → (x : ℕ × Update) × (slice_get xs i ≡ Some x)
item-at [] i l = absurd (omega (arith, l))
item-at (x ∷ xs) zero l = (x, refl)
item-at (x ∷ xs) (suc i) l = item-at xs i (omega (arith, l))

pub within-list : (xs : Issued) (i : ℕ) (x : ℕ × Update) → slice_get xs i ≡ Some x → i < length xs
within-list [] i x e = absurd (no-item e)
within-list (y ∷ ys) zero x e = omega arith
within-list (y ∷ ys) (suc i) x e = let l = within-list ys i x e in omega (arith, l)

pub at-holds : (xs : Issued) (i : ℕ) (x : ℕ × Update) → slice_get xs i ≡ Some x → Holds xs x.0 x.1
at-holds [] i x e = absurd (no-item e)
at-holds (y ∷ ys) zero x e = let s : y ≡ x = same-item e in inl (ap (λ z. z.0) s, ap (λ z. z.1) s)
at-holds (y ∷ ys) (suc i) x e = inr (at-holds ys i x e)

pub holds-at : (xs : Issued) (n : ℕ) (u : Update) → Holds xs n u → (i : ℕ) × (slice_get xs i ≡ Some (n, u))
holds-at [] n u h = absurd h
holds-at (x ∷ xs) n u (inl e) = (0, ap (λ m. Some (m, x.1)) e.0 ∙ ap (λ w. Some (n, w)) e.1)
holds-at (x ∷ xs) n u (inr h) = let r = holds-at xs n u h in (suc r.0, r.1)

-- Of rising operations.

pub rise : (xs : Issued) (i j : ℕ) (x y : ℕ × Update) → T (is_sorted nat_cmp xs) → slice_get xs i ≡ Some x → slice_get xs j ≡ Some y → i < j → x.0 < y.0
rise [] i j x y s e f l = absurd (no-item e)
rise (z ∷ zs) zero zero x y s e f l = absurd (omega (arith, l))
rise (z ∷ zs) (suc i) zero x y s e f l = absurd (omega (arith, l))
rise (z ∷ zs) zero (suc j) x y s e f l = subst (λ w. w.0 < y.0) (same-item e) (above-held z.0 zs (first _ _ s) y.0 y.1 (at-holds zs j y f))
rise (z ∷ zs) (suc i) (suc j) x y s e f l = rise zs i j x y (second _ _ s) e f (omega (arith, l))

pub not-behind : (xs : Issued) (i j : ℕ) (x y : ℕ × Update) → T (is_sorted nat_cmp xs) → slice_get xs i ≡ Some x → slice_get xs j ≡ Some y → x.0 ≤ y.0 → i ≤ j
not-behind xs i j x y s e f l = elim (cases_Bool (nat_lt j i)) [
  | inl t ↦ let b = rise xs j i y x s f e (ltb-true j i t) in absurd (omega (arith, b, l))
  | inr t ↦ least t
]
  where
    least : nat_lt j i ≡ false → i ≤ j
    least t = grind (arith, nat_tests, t)

pub same-there : (xs : Issued) (i j : ℕ) (x y : ℕ × Update) → T (is_sorted nat_cmp xs) → slice_get xs i ≡ Some x → slice_get xs j ≡ Some y → x.0 ≡ y.0 → x ≡ y
same-there xs i j x y s e f q =
    let a = not-behind xs i j x y s e f (omega (arith, q)) in
    let b = not-behind xs j i y x s f e (omega (arith, q)) in
    let k : i ≡ j = omega (arith, a, b) in
    same-item (sym e ∙ ap (slice_get xs) k ∙ f)

pub held-once : (xs : Issued) (i : ℕ) (x : ℕ × Update) (n : ℕ) (u : Update) → T (is_sorted nat_cmp xs) → slice_get xs i ≡ Some x → x.0 ≡ n → Holds xs n u → x ≡ (n, u)
held-once xs i x n u s e q h = let r = holds-at xs n u h in same-there xs i r.0 x (n, u) s e r.1 q

-- Where a search finds an operation.

pub numbered : (m n : ℕ) → nat_cmp m n ≡ Equal → m ≡ n
numbered m n e = grind (arith, nat_tests, subst T (ap is_eq (sym e)) tt, sym (unsigned_ties m n))

pub found-held : (xs : Issued) (n : ℕ) (u : Update) → T (is_sorted nat_cmp xs) → Holds xs n u → at n xs ≡ Some u
found-held [] n u s h = absurd h
found-held (x ∷ xs) n u s (inl e) = ap (λ b. cond b (Some x.1) (at n xs)) (sym (unsigned_ties n x.0) ∙ same (sym e.0)) ∙ ap Some e.1
  where
    same : n ≡ x.0 → (n == x.0) ≡ true
    same e = grind (arith, nat_tests, e)
found-held (x ∷ xs) n u s (inr h) = ap (λ b. cond b (Some x.1) (at n xs)) (sym (unsigned_ties n x.0) ∙ apart (above-held x.0 xs (first _ _ s) n u h)) ∙ found-held xs n u (second _ _ s) h
  where
    apart : x.0 < n → (n == x.0) ≡ false
    apart l = grind (arith, nat_tests, l)

-- The first ones, and those behind them.

pub get-front : {X : Type 0} (n i : ℕ) (xs : List X) (x : X) → slice_get (take n xs) i ≡ Some x → slice_get xs i ≡ Some x
get-front zero i xs x e = absurd (no-item e)
get-front (suc n) i [] x e = absurd (no-item e)
get-front (suc n) zero (y ∷ ys) x e = e
get-front (suc n) (suc i) (y ∷ ys) x e = get-front n i ys x e

pub front-get : (n i : ℕ) (xs : Issued) (x : ℕ × Update) → i < n → slice_get xs i ≡ Some x → slice_get (take n xs) i ≡ Some x
front-get zero i xs x l e = absurd (omega (arith, l))
front-get (suc n) i [] x l e = absurd (no-item e)
front-get (suc n) zero (y ∷ ys) x l e = e
front-get (suc n) (suc i) (y ∷ ys) x l e = front-get n i ys x (omega (arith, l)) e

pub front-within : (n i : ℕ) (xs : Issued) (x : ℕ × Update) → slice_get (take n xs) i ≡ Some x → i < n
front-within zero i xs x e = absurd (no-item e)
front-within (suc n) i [] x e = absurd (no-item e)
front-within (suc n) zero (y ∷ ys) x e = omega arith
front-within (suc n) (suc i) (y ∷ ys) x e = let l = front-within n i ys x e in omega (arith, l)

pub get-behind : (n i : ℕ) (xs : Issued) (x : ℕ × Update) → slice_get (drop n xs) i ≡ Some x → slice_get xs (n + i) ≡ Some x
get-behind zero i xs x e = subst (λ k. slice_get xs k ≡ Some x) (plain i) e
  where
    plain : (i : ℕ) → i ≡ 0 + i
    plain i = omega arith
get-behind (suc n) i [] x e = absurd (no-item e)
get-behind (suc n) i (y ∷ ys) x e = subst (λ k. slice_get (y ∷ ys) k ≡ Some x) (next n i) (get-behind n i ys x e)
  where
    next : (n i : ℕ) → suc (n + i) ≡ suc n + i
    next n i = omega arith

pub behind-get : (n i : ℕ) (xs : Issued) (x : ℕ × Update) → slice_get xs (n + i) ≡ Some x → slice_get (drop n xs) i ≡ Some x
behind-get zero i xs x e = subst (λ k. slice_get xs k ≡ Some x) (plain i) e
  where
    plain : (i : ℕ) → 0 + i ≡ i
    plain i = omega arith
behind-get (suc n) i [] x e = absurd (no-item (e' (suc n + i) e))
  where
    e' : (k : ℕ) → ◌≡◌ {A = Option (ℕ × Update)} (slice_get [] k) (Some x) → ◌≡◌ {A = Option (ℕ × Update)} None (Some x)
    e' k e = e
behind-get (suc n) i (y ∷ ys) x e = behind-get n i ys x (subst (λ k. slice_get (y ∷ ys) k ≡ Some x) (next n i) e)
  where
    next : (n i : ℕ) → suc n + i ≡ suc (n + i)
    next n i = omega arith

pub front-holds : (n : ℕ) (xs : Issued) (m : ℕ) (u : Update) → Holds (take n xs) m u → Holds xs m u
front-holds zero xs m u h = absurd h
front-holds (suc n) [] m u h = h
front-holds (suc n) (x ∷ xs) m u (inl e) = inl e
front-holds (suc n) (x ∷ xs) m u (inr h) = inr (front-holds n xs m u h)

pub linked-front : (chains : Table (List ℕ)) (n : ℕ) (xs : Issued) → AreLinked chains xs → AreLinked chains (take n xs)
linked-front chains n xs l o m u h t = l o m u (front-holds n xs m u h) t
