-- Lists of ids without repetition, and what is left of them behind a test.
use Rattle.std.proofs.Common.{◌≡◌, ℕ, List, [], ◌∷◌, ◌++◌, Bool, true, false, refl, ap, ◌∙◌, arith}
use Rattle.std.specs.Prelude.{◌==◌, not, ◌&&◌, ◌||◌}
use Rattle.std.specs.List.{filter, list_any}
use Rattle.std.proofs.lemmas.Bool.Decides.{nat_tests}
use Rattle.ec_volume.specs.Update.{member, distinct}

or_assoc : (a b c : Bool) → (a || (b || c)) ≡ ((a || b) || c)
or_assoc true b c = refl
or_assoc false b c = refl

regroup : (a b d l e : Bool) → (not (a || b) && (d && (not l && e))) ≡ ((not a && d) && (not (b || l) && e))
regroup true b d l e = refl
regroup false true true l e = refl
regroup false true false l e = refl
regroup false false d l e = refl

member-append : (o : ℕ) (xs ys : List ℕ) → member o (xs ++ ys) ≡ (member o xs || member o ys)
member-append o [] ys = refl
member-append o (x ∷ xs) ys = ap (λ b. (o == x) || b) (member-append o xs ys) ∙ or_assoc (o == x) (member o xs) (member o ys)

distinct-append : (xs ys : List ℕ) → distinct (xs ++ ys) ≡ (distinct xs && (not (list_any (λ o. member o ys) xs) && distinct ys))
distinct-append [] ys = refl
distinct-append (x ∷ xs) ys =
    rw (member-append x xs ys, distinct-append xs ys) (regroup (member x xs) (member x ys) (distinct xs) (list_any (λ o. member o ys) xs) (distinct ys))

pub member-others : (d o : ℕ) (xs : List ℕ) → (o == d) ≡ false → member o (filter (λ p. not (p == d)) xs) ≡ member o xs
member-others d o [] h = refl
member-others d o (x ∷ xs) h = let rest = member-others d o xs h in grind (arith, nat_tests)

lacking : (d : ℕ) (xs : List ℕ) → member d (filter (λ p. not (p == d)) xs) ≡ false
lacking d [] = refl
lacking d (x ∷ xs) = let rest = lacking d xs in grind (arith, nat_tests)

any_others : (d : ℕ) (xs os : List ℕ) → member d os ≡ false → list_any (λ o. member o (filter (λ p. not (p == d)) xs)) os ≡ list_any (λ o. member o xs) os
any_others d xs [] h = refl
any_others d xs (o ∷ os) h =
    let other : (o == d) ≡ false = grind (arith, nat_tests) in
    let later : member d os ≡ false = grind (arith, nat_tests) in
    rw (member-others d o xs other, any_others d xs os later)

absent-filter : (p : ℕ → Bool) (o : ℕ) (xs : List ℕ) → member o xs ≡ false → member o (filter p xs) ≡ false
absent-filter p o [] h = refl
absent-filter p o (x ∷ xs) h =
    let later : member o xs ≡ false = grind arith in
    let rest = absent-filter p o xs later in
    grind arith

distinct-filter : (p : ℕ → Bool) (xs : List ℕ) → distinct xs ≡ true → distinct (filter p xs) ≡ true
distinct-filter p [] h = refl
distinct-filter p (x ∷ xs) h =
    let apart : member x xs ≡ false = grind arith in
    let later : distinct xs ≡ true = grind arith in
    let rest = distinct-filter p xs later in
    let left = absent-filter p x xs apart in
    grind arith

joined : (A L M F : Bool) → (A ≡ true → L ≡ M) → F ≡ true → (A && (not L && F)) ≡ (A && not M)
joined false L M F h f = refl
joined true L M F h f = rw (h refl, f) (elim M as (λ m. (not m && true) ≡ not m) [ true ↦ refl | false ↦ refl ])

pub not_first : (d : ℕ) (os : List ℕ) → distinct (d ∷ os) ≡ true → member d os ≡ false
not_first d os h = grind arith

pub distinct_apart : (d : ℕ) (os xs : List ℕ) → distinct xs ≡ true → distinct ((d ∷ os) ++ filter (λ p. not (p == d)) xs) ≡ (distinct (d ∷ os) && not (list_any (λ o. member o xs) os))
distinct_apart d os xs h =
    distinct-append (d ∷ os) (filter (λ p. not (p == d)) xs)
    ∙ rw (lacking d xs) (joined (distinct (d ∷ os)) _ _ _ (λ t. any_others d xs os (not_first d os t)) (distinct-filter (λ p. not (p == d)) xs h))

pub with_true : (a b : Bool) → a ≡ true → b ≡ (a && b)
with_true a b e = rw e
