-- Sums over the numbers below sixteen.
use Rattle.std.proofs.Common.{◌≡◌, refl, sym, ap, ◌∙◌, subst, arith, ◌≤◌, ◌<◌, ◌+◌, ◌*◌, ℕ, zero, suc, T, Bool, true, false, not, ◌==◌, ◌||◌, cond, List, [], ◌∷◌, length}
use Rattle.std.specs.List.{filter}
use Rattle.std.proofs.lemmas.Bool.{eqb-true, eq-eqb}
use Rattle.ec_base.specs.Tables.{once}
use Rattle.ec_volume.specs.Update.{member}
use Rattle.ec_complete.specs.ScriptRooms.{sum_below}
use Rattle.ec_base.specs.Bools.{one_if}

pub sum-less : (n : ℕ) (f g : ℕ → ℕ) → ((c : ℕ) → f c ≤ g c) → sum_below n f ≤ sum_below n g
sum-less zero f g l = omega arith
sum-less (suc n) f g l = omega (arith, l n, sum-less n f g l)

pub sum-both : (n : ℕ) (f g : ℕ → ℕ) → sum_below n (λ c. f c + g c) ≡ sum_below n f + sum_below n g
sum-both zero f g = omega arith
sum-both (suc n) f g = omega (arith, sum-both n f g)

pub sum-times : (n k : ℕ) (f : ℕ → ℕ) → sum_below n (λ c. 16 * f c) ≡ 16 * sum_below n f
sum-times zero k f = omega arith
sum-times (suc n) k f = omega (arith, sum-times n k f)

one-most : (b : Bool) → one_if b ≤ 1
one-most true = omega arith
one-most false = omega arith

-- One number stands once below another one, or isn't below it.
none-below : (n d : ℕ) → n ≤ d → sum_below n (λ c. one_if (c == d)) ≤ 0
none-below zero d l = omega arith
none-below (suc n) d l = omega (arith, none-below n d (omega (arith, l)), ap one_if (unlike n d l))
  where
    unlike : (n d : ℕ) → suc n ≤ d → (n == d) ≡ false
    unlike n d l = grind (arith, l)

pub once-below : (n d : ℕ) → sum_below n (λ c. one_if (c == d)) ≤ 1
once-below zero d = omega arith
once-below (suc n) d = go (n == d) refl (once-below n d)
  where
    go : (b : Bool) → (n == d) ≡ b → sum_below n (λ c. one_if (c == d)) ≤ 1 → one_if (n == d) + sum_below n (λ c. one_if (c == d)) ≤ 1
    go true e r = omega (arith, one-most (n == d), none-below n d (omega (arith, eqb-true n d e)))
    go false e r = omega (arith, ap one_if e, r)

either-one : (a b : Bool) → one_if (a || b) ≤ one_if a + one_if b
either-one true b = omega arith
either-one false b = omega arith

-- No more numbers are in a list than it is long.
pub members-few : (n : ℕ) (xs : List ℕ) → sum_below n (λ c. one_if (member c xs)) ≤ length xs
members-few n [] = none n
  where
    none : (n : ℕ) → sum_below n (λ c. one_if (member c [])) ≤ 0
    none zero = omega arith
    none (suc n) = omega (arith, none n)
members-few n (x ∷ xs) =
    omega (arith, sum-less n (λ c. one_if ((c == x) || member c xs)) (λ c. one_if (c == x) + one_if (member c xs)) (λ c. either-one (c == x) (member c xs)), sum-both n (λ c. one_if (c == x)) (λ c. one_if (member c xs)), once-below n x, members-few n xs)

-- What is in a list is in it without repetitions.
still-in : (x y : ℕ) (xs : List ℕ) → (y == x) ≡ false → T (member y xs) → T (member y (filter (λ m. not (m == x)) xs))
still-in x y [] e m = m
still-in x y (z ∷ zs) e m = go (y == z) refl (z == x) refl m (still-in x y zs e)
  where
    true-false : ◌≡◌ {A = Bool} true false → ⊥
    true-false e = grind (arith, e)

    go : (a : Bool) → (y == z) ≡ a → (b : Bool) → (z == x) ≡ b → T (a || member y zs) → (T (member y zs) → T (member y (filter (λ m. not (m == x)) zs))) → T (member y (cond (not b) (z ∷ filter (λ m. not (m == x)) zs) (filter (λ m. not (m == x)) zs)))
    go true p true q m r = absurd (true-false (sym (eq-eqb y x (eqb-true y z p ∙ eqb-true z x q)) ∙ e))
    go true p false q m r = subst (λ b. T (b || member y (filter (λ m. not (m == x)) zs))) (sym p) tt
    go false p true q m r = r m
    go false p false q m r = later (y == z) (member y (filter (λ m. not (m == x)) zs)) (r m)
      where
        later : (a b : Bool) → T b → T (a || b)
        later true b t = tt
        later false b t = t

pub once-in : (y : ℕ) (xs : List ℕ) → T (member y xs) → T (member y (once xs))
once-in y [] m = m
once-in y (x ∷ xs) m = go (y == x) refl m (once-in y xs)
  where
    go : (b : Bool) → (y == x) ≡ b → T (b || member y xs) → (T (member y xs) → T (member y (once xs))) → T (b || member y (filter (λ m. not (m == x)) (once xs)))
    go true p m r = tt
    go false p m r = still-in x y (once xs) p (r m)

-- What is added for one number below another one.
module _ (a extra : ℕ) where
  abbrev added : ℕ → ℕ
  added c = extra * one_if (c == a)

  unlike : (n : ℕ) → suc n ≤ a → (n == a) ≡ false
  unlike n l = grind (arith, l)

  below : (n : ℕ) → (n == a) ≡ false → a < suc n → a < n
  below n e l = grind (arith, e, l)

  times-none : (e s r : ℕ) → s ≡ r → e * 0 + s ≡ r
  times-none e s r p = omega (arith, p)

  times-one : (e s : ℕ) → s ≡ 0 → e * 1 + s ≡ e
  times-one e s p = omega (arith, p)

  none-added : (n : ℕ) → n ≤ a → sum_below n added ≡ 0
  none-added zero l = refl
  none-added (suc n) l = ap (λ b. extra * one_if b + sum_below n added) (unlike n l) ∙ times-none extra (sum_below n added) 0 (none-added n (omega (arith, l)))

  one-added : (n : ℕ) → a < n → sum_below n added ≡ extra
  one-added zero l = absurd (omega (arith, l))
  one-added (suc n) l = go (n == a) refl (one-added n)
    where
      go : (b : Bool) → (n == a) ≡ b → (a < n → sum_below n added ≡ extra) → extra * one_if (n == a) + sum_below n added ≡ extra
      go true e r = ap (λ b. extra * one_if b + sum_below n added) e ∙ times-one extra (sum_below n added) (none-added n (omega (arith, eqb-true n a e)))
      go false e r = ap (λ b. extra * one_if b + sum_below n added) e ∙ times-none extra (sum_below n added) extra (r (below n e l))

  pub less-one : (n : ℕ) (f : ℕ → ℕ) → a < n → sum_below n (λ c. f c + extra * one_if (c == a)) ≡ sum_below n f + extra
  less-one n f l = sum-both n f added ∙ ap (λ s. sum_below n f + s) (one-added n l)
