-- Lists of numbers that are sorted.
use Rattle.std.proofs.Common.{◌≡◌, ◌==◌, ℕ, suc, ◌+◌, ◌<◌, ◌≤◌, Bool, true, false, cond, List, [], ◌∷◌, length, get_or, T, refl, sym, ap, subst, ◌∙◌, arith, inl, inr}
use Rattle.std.specs.Prelude.{◌&&◌, nat_lt}
use Rattle.std.specs.List.{sum_by}
use Rattle.std.specs.List.Sorted.{IsPermutation, IsNonDecreasingBy}
use Rattle.std.specs.Ordering.{nat_cmp, is_lt}
use Rattle.std.specs.FinMap.{is_sorted}
use Rattle.std.specs.FinMap.Entries.{below_all}
use Rattle.std.proofs.lemmas.Bool.{and_parts, cases_eq, ltb-true, ltb-false}
use Rattle.std.proofs.lemmas.List.Sorted.{sum_by-IsPermutation}
use Rattle.std.proofs.lemmas.List.Sums.{sum_by-cons}
use Rattle.ec_base.specs.SortedLaws.{first, second}
use Rattle.ec_base.specs.Tables.{keys}
use Rattle.ec_volume.specs.Update.{distinct}
use Rattle.ec_volume.specs.declared.image.Image.{Image}
use Rattle.ec_sessions.specs.WindowMarks.{times}
use Rattle.ec_durable.proofs.Counts.{here, there, more, apart_once, once_apart}
use Rattle.ec_durable.specs.OfWellFormed.WellFormed.{is_rising, AllFrom, Ascends}
use Rattle.ec_base.proofs.Bools.{holds-true as told, lower-tested}

-- a sort moves numbers, and keeps how often each stands
times_sum : (n : ℕ) (xs : List ℕ) → times n xs ≡ sum_by (λ m. cond (m == n) 1 0) xs
times_sum n [] = refl
times_sum n (x ∷ xs) = ap (λ (k : ℕ). cond (x == n) 1 0 + k) (times_sum n xs) ∙ sym (sum_by-cons (λ m. cond (m == n) 1 0) x xs)

pub times_moved : (n : ℕ) (xs ys : List ℕ) → IsPermutation xs ys → times n ys ≡ times n xs
times_moved n xs ys p = times_sum n ys ∙ sum_by-IsPermutation (λ m. cond (m == n) 1 0) xs ys p ∙ sym (times_sum n xs)

all_from : (n : ℕ) (xs : List ℕ) → ((j : ℕ) → j < length xs → n ≤ get_or xs j 0) → AllFrom n xs
all_from n [] h = tt
all_from n (x ∷ xs) h = (h 0 (omega arith), all_from n xs (λ j l. h (suc j) (omega (arith, l))))

pub ascends_from : (xs : List ℕ) → IsNonDecreasingBy (λ x. x) xs → Ascends xs
ascends_from [] h = tt
ascends_from (x ∷ xs) h = (all_from x xs (λ j l. h 0 (suc j) 0 (omega arith) (omega (arith, l))), ascends_from xs (λ i j d le l. h (suc i) (suc j) d (omega (arith, le)) (omega (arith, l))))

-- A list that ascends rises exactly where no number stands twice.

none_below : (n x : ℕ) (xs : List ℕ) → n < x → AllFrom x xs → times n xs ≤ 0
none_below n x [] lt h = omega arith
none_below n x (y ∷ ys) lt h = omega (arith, there n y ys (λ s. absurd (omega (arith, lt, h.0, s))), none_below n x ys lt h.1)

rising_once : (xs : List ℕ) → Ascends xs → is_rising xs ≡ true → (n : ℕ) → times n xs ≤ 1
rising_once [] up r n = omega arith
rising_once (x ∷ []) up r n = elim (cases_eq x n) [ inl e ↦ omega (arith, here n x [] e) | inr d ↦ omega (arith, there n x [] d) ]
rising_once (x ∷ y ∷ ys) up r n =
    let parts = and_parts (nat_lt x y) (is_rising (y ∷ ys)) r in
    let lt : x < y = ltb-true x y parts.0 in
    let rest : times n (y ∷ ys) ≤ 1 = rising_once (y ∷ ys) up.1 parts.1 n in
    elim (cases_eq x n) [
      | inl e ↦ omega (arith, here n x (y ∷ ys) e, none_below n y (y ∷ ys) (omega (arith, lt, e)) (omega arith, up.1.0))
      | inr d ↦ omega (arith, there n x (y ∷ ys) d, rest)
    ]

falling_twice : (xs : List ℕ) → Ascends xs → is_rising xs ≡ false → (n : ℕ) × (2 ≤ times n xs)
falling_twice [] up r = absurd cc
falling_twice (x ∷ []) up r = absurd cc
falling_twice (x ∷ y ∷ ys) up r = go (nat_lt x y) refl r (falling_twice (y ∷ ys) up.1)
  where
    go : (b : Bool) → nat_lt x y ≡ b → (b && is_rising (y ∷ ys)) ≡ false → (is_rising (y ∷ ys) ≡ false → (n : ℕ) × (2 ≤ times n (y ∷ ys))) → (n : ℕ) × (2 ≤ times n (x ∷ y ∷ ys))
    go true p h rec = let it = rec h in (it.0, omega (arith, it.1, more it.0 x (y ∷ ys)))
    go false p h rec = let le : y ≤ x = ltb-false x y p in (x, omega (arith, here x x (y ∷ ys) refl, here x y ys (omega (arith, le, up.0.0))))

pub rising_tells : (xs ys : List ℕ) → Ascends ys → ((n : ℕ) → times n ys ≡ times n xs) → is_rising ys ≡ distinct xs
rising_tells xs ys up same = go (is_rising ys) refl (distinct xs) refl
  where
    go : (a : Bool) → is_rising ys ≡ a → (b : Bool) → distinct xs ≡ b → a ≡ b
    go true p true q = refl
    go false p false q = refl
    go true p false q = absurd (subst T q (apart_once xs (λ n. omega (arith, same n, rising_once ys up p n))))
    go false p true q = let two = falling_twice ys up p in absurd (omega (arith, two.1, same two.0, once_apart xs (told (distinct xs) q) two.0))

-- Lists that ascend and have the same numbers are the same.

from_times : (n m : ℕ) (xs : List ℕ) → AllFrom n xs → 1 ≤ times m xs → n ≤ m
from_times n m [] h is = absurd (omega (arith, is))
from_times n m (x ∷ xs) h is = elim (cases_eq x m) [ inl e ↦ omega (arith, h.0, e) | inr d ↦ from_times n m xs h.1 (omega (arith, is, there m x xs d)) ]

pub same_ascending : (xs ys : List ℕ) → Ascends xs → Ascends ys → ((n : ℕ) → times n xs ≡ times n ys) → xs ≡ ys
same_ascending [] [] up down same = refl
same_ascending [] (y ∷ ys) up down same = absurd (omega (arith, same y, here y y ys refl))
same_ascending (x ∷ xs) [] up down same = absurd (omega (arith, same x, here x x xs refl))
same_ascending (x ∷ xs) (y ∷ ys) up down same =
    let le : y ≤ x = from_times y x (y ∷ ys) (omega arith, down.0) (omega (arith, same x, here x x xs refl)) in
    let ge : x ≤ y = from_times x y (x ∷ xs) (omega arith, up.0) (omega (arith, same y, here y y ys refl)) in
    let is : x ≡ y = omega (arith, le, ge) in
    ap (λ (n : ℕ). n ∷ xs) is
    ∙ ap (λ (l : List ℕ). y ∷ l)
    (same_ascending xs ys up.1 down.1 (λ n. elim (cases_eq x n) [
      | inl e ↦ omega (arith, same n, here n x xs e, here n y ys (sym is ∙ e))
      | inr d ↦ omega (arith, same n, there n x xs d, there n y ys (λ s. d (is ∙ s)))
    ]))

keys_from : (k : ℕ) (es : List (ℕ × Image)) → T (below_all nat_cmp k es) → AllFrom k (keys es)
keys_from k [] h = tt
keys_from k (e ∷ es) h = (omega (arith, lower-tested k e.0 (first (is_lt (nat_cmp k e.0)) (below_all nat_cmp k es) h)), keys_from k es (second (is_lt (nat_cmp k e.0)) (below_all nat_cmp k es) h))

pub keys_ascend : (es : List (ℕ × Image)) → T (is_sorted nat_cmp es) → Ascends (keys es)
keys_ascend [] h = tt
keys_ascend (e ∷ es) h = (keys_from e.0 es (first (below_all nat_cmp e.0 es) (is_sorted nat_cmp es) h), keys_ascend es (second (below_all nat_cmp e.0 es) (is_sorted nat_cmp es) h))

pub short_rises : (xs : List ℕ) → length xs < 2 → true ≡ is_rising xs
short_rises [] h = refl
short_rises (x ∷ []) h = refl
short_rises (x ∷ y ∷ ys) h = absurd (omega (arith, h))
