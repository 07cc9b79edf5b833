-- An index of numbers, one number more.
use Rattle.std.proofs.Common.{◌≡◌, refl, sym, ap, subst, ◌∙◌, ◌<◌, ◌≤◌, ◌+◌, arith, ℕ, Bool, true, false, ◌==◌, ◌||◌, cond, List, [], ◌∷◌, ◌++◌, length, take, get_or}
use Rattle.std.specs.BTreeMap.{is_at}
use Rattle.std.specs.Ordering.{nat_cmp}
use Rattle.std.proofs.lemmas.Bool.Decides.{nat_tests}
use Rattle.std.proofs.lemmas.List.{take_more, take_all}
use Rattle.ec_volume.specs.Update.{member}
use Rattle.ec_order.specs.OfNumbers.Numbers.{IsIndex}

pub member-append : (n : ℕ) (xs ys : List ℕ) → member n (xs ++ ys) ≡ (member n xs || member n ys)
member-append n [] ys = refl
member-append n (x ∷ xs) ys = ap (λ z. (n == x) || z) (member-append n xs ys) ∙ go (n == x)
  where
    go : (b : Bool) → (b || (member n xs || member n ys)) ≡ ((b || member n xs) || member n ys)
    go true = refl
    go false = refl

-- one number more at the end
pub index-push : (ns : List ℕ) (m : ℕ) (old new : ℕ → Bool) → IsIndex old ns → ((n : ℕ) → new n ≡ ((n == m) || old n)) → IsIndex new (ns ++ m ∷ [])
index-push ns m old new h is = λ n. is n ∙ ap (λ b. (n == m) || b) (h n) ∙ go (n == m) (member n ns) ∙ sym (member-append n ns (m ∷ []))
  where
    go : (a b : Bool) → (a || b) ≡ (b || (a || false))
    go true true = refl
    go true false = refl
    go false true = refl
    go false false = refl

pub index-more : (ns : List ℕ) (i m : ℕ) (old new : ℕ → Bool) → IsIndex old (take i ns) → i < length ns → m ≡ get_or ns i m → ((n : ℕ) → new n ≡ ((n == m) || old n)) → IsIndex new (take (i + 1) ns)
index-more ns i m old new h within is put-is = subst (IsIndex new) (sym (take_more ns i m within ∙ ap (λ x. take i ns ++ x ∷ []) (sym is))) (index-push (take i ns) m old new h put-is)

pub index-all : (ns : List ℕ) (i : ℕ) (known : ℕ → Bool) → IsIndex known (take i ns) → length ns ≤ i → IsIndex known ns
index-all ns i known h l = subst (IsIndex known) (take_all i ns l) h

-- a set of numbers, one number more
pub known-more : (op n : ℕ) (x y : Bool) → x ≡ cond (is_at (nat_cmp op) n) true y → x ≡ ((n == op) || y)
known-more op n x y e = e ∙ ap (λ b. cond b true y) (turned op n) ∙ go (n == op)
  where
    turned : (op n : ℕ) → is_at (nat_cmp op) n ≡ (n == op)
    turned op n = grind (arith, nat_tests)

    go : (b : Bool) → cond b true y ≡ (b || y)
    go true = refl
    go false = refl
