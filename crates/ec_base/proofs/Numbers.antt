-- Lemmas on numbers.
use Rattle.std.proofs.Common.{◌≡◌, ℕ, arith, true, ◌≤◌, false, ◌<◌, ◌+◌, refl}
use Rattle.std.specs.Prelude.{◌-◌, suc, ◌==◌, nat_le, nat_lt}
use Rattle.std.proofs.lemmas.Bool.Decides.{nat_tests}
use Rattle.std.specs.Ordering.{nat_cmp, is_lt}
use Rattle.std.specs.declared.cmp.Ordering.TheVariants.{Equal}
use Rattle.std.proofs.lemmas.Bool.{eq-eqb}

pub one-less : (n : ℕ) → n ≡ suc n - 1
one-less n = grind (arith)

pub itself : (n : ℕ) → (n == n) ≡ true
itself n = grind (arith, nat_tests)

pub le-same : (n : ℕ) → n ≤ n
le-same n = omega arith

pub same-self : (n : ℕ) → (n == n) ≡ true
same-self n = grind arith

pub flip : (m n : ℕ) → (m == n) ≡ false → (n == m) ≡ false
flip m n e = grind (arith, e)

pub equal : (j k : ℕ) → (j == k) ≡ true → j ≡ k
equal j k e = grind arith

pub differ : (j k : ℕ) → (j ≡ k → ⊥) → (j == k) ≡ false
differ j k d = grind arith

pub below : (a b : ℕ) → nat_le a b ≡ false → nat_lt b a ≡ true
below a b e = grind arith

pub is-less : (n m : ℕ) → n < m → nat_lt n m ≡ true
is-less n m l = grind arith

pub not-under : (n m : ℕ) → m ≤ n → nat_lt n m ≡ false
not-under n m l = grind arith

pub not-above : (top a : ℕ) → a ≤ top → nat_lt top a ≡ false
not-above top a l = grind (arith, nat_tests, l)

pub not-at : (top a : ℕ) → a < top → nat_le top a ≡ false
not-at top a l = grind (arith, nat_tests, l)

pub none_more : (k : ℕ) → 0 + k ≡ k
none_more k = omega arith

pub other-number : (l n : ℕ) → l < n → (l == n) ≡ false
other-number l n e = grind (arith, e)

pub longer : (a b n l : ℕ) → n ≡ a + b → l ≤ a → l ≤ n
longer a b n l q p = omega (arith, q, p)

pub plus_none : (count : ℕ) → count ≡ count + 0
plus_none count = omega arith

pub less-tested : (m n : ℕ) → m < n → is_lt (nat_cmp m n) ≡ true
less-tested m n h = grind (arith, nat_tests)

pub less : (m n : ℕ) → is_lt (nat_cmp m n) ≡ true → m < n
less m n h = grind (arith, nat_tests)

pub above : (m n : ℕ) → nat_lt m n ≡ false → n ≤ m
above m n e = grind (arith, e)

pub above-limit : (m n : ℕ) → nat_lt m n ≡ true → m < n
above-limit m n e = grind (arith, e)

pub at-limit : (a b : ℕ) → nat_le a b ≡ true → a ≤ b
at-limit a b e = grind (arith, e)

pub tied : (k j : ℕ) → nat_cmp k j ≡ Equal → k ≡ j
tied k j p = grind (arith, nat_tests, p)

pub early : (m n : ℕ) → nat_le m n ≡ true → m ≤ n
early m n e = grind (arith, nat_tests)

pub same-number : (n : ℕ) → (n == n) ≡ true
same-number n = eq-eqb n n refl

pub turned : (a b : ℕ) → (a == b) ≡ (b == a)
turned a b = grind arith

pub next-place : (k : ℕ) → suc k + 1 ≡ suc (k + 1)
next-place k = omega arith

pub flip_too : (x y : ℕ) → (x == y) ≡ (y == x)
flip_too x y = grind (arith, nat_tests)
