-- Lemmas on lists.
use Rattle.std.proofs.Common.{◌≡◌, refl, ap, List, [], ◌∷◌, ◌++◌, length, take, sym, ◌∙◌, Bool, true, false, cond, arith, ◌≤◌, ℕ, zero, suc, append_assoc, drop, get_or, ◌<◌, Option, Some, None, ◌==◌}
use Rattle.std.specs.Prelude.{map, ◌-◌}
use Rattle.std.specs.List.{filter, AllPairs}
use mathlib.Core.List.{IsPrefix}
use Rattle.std.proofs.lemmas.List.{take_all}
use Rattle.std.specs.List.Sorted.{IsStrictlyIncreasing}
use Rattle.std.proofs.lemmas.List.Kept.{AllPairs-from_increasing}
use Rattle.std.specs.Io.KnownBytes.{Appends}

pub regroup : {A : Type 0} (xs ys zs : List A) → (xs ++ ys) ++ zs ≡ xs ++ (ys ++ zs)
regroup [] ys zs = refl
regroup (x ∷ xs) ys zs = ap (λ l. x ∷ l) (regroup xs ys zs)

pub map-more : {A B : Type 0} (f : A → B) (xs ys : List A) → map f (xs ++ ys) ≡ map f xs ++ map f ys
map-more f [] ys = refl
map-more f (x ∷ xs) ys = ap (λ zs. f x ∷ zs) (map-more f xs ys)

pub map_twice : {A B C : Type 0} (f : B → C) (h : A → B) (xs : List A) → map f (map h xs) ≡ map (λ x. f (h x)) xs
map_twice f h [] = refl
map_twice f h (x ∷ xs) = ap (λ l. f (h x) ∷ l) (map_twice f h xs)

pub all-taken : {A : Type 0} (xs : List A) → take (length xs) xs ≡ xs
all-taken [] = refl
all-taken (x ∷ xs) = ap (λ l. x ∷ l) (all-taken xs)

pub filter-swap : {A : Type 0} (p q : A → Bool) (xs : List A) → filter p (filter q xs) ≡ filter q (filter p xs)
filter-swap p q [] = refl
filter-swap p q (x ∷ xs) = go (p x) (q x) refl refl (filter-swap p q xs)
  where
    go : (a b : Bool) → p x ≡ a → q x ≡ b → filter p (filter q xs) ≡ filter q (filter p xs) → filter p (cond b (x ∷ filter q xs) (filter q xs)) ≡ filter q (cond a (x ∷ filter p xs) (filter p xs))
    go true true e f r = ap (λ z. cond z (x ∷ filter p (filter q xs)) (filter p (filter q xs))) e ∙ ap (λ ys. x ∷ ys) r ∙ sym (ap (λ z. cond z (x ∷ filter q (filter p xs)) (filter q (filter p xs))) f)
    go true false e f r = r ∙ sym (ap (λ z. cond z (x ∷ filter q (filter p xs)) (filter q (filter p xs))) f)
    go false true e f r = ap (λ z. cond z (x ∷ filter p (filter q xs)) (filter p (filter q xs))) e ∙ r
    go false false e f r = r

pub front-length : {A : Type 0} (ss : List A) (i : ℕ) → i ≤ length ss → length (take i ss) ≡ i
front-length ss zero l = refl
front-length [] (suc i) l = absurd (omega (arith, l))
front-length (s ∷ ss) (suc i) l = ap suc (front-length ss i (omega (arith, l)))

pub prefix_self : {A : Type 0} (xs : List A) → IsPrefix xs xs
prefix_self [] = ([], refl)
prefix_self (x ∷ xs) = (let r = prefix_self xs in r.0, ap (λ ys. x ∷ ys) (prefix_self xs).1)

pub prefix_trans : {A : Type 0} (xs ys zs : List A) → IsPrefix xs ys → IsPrefix ys zs → IsPrefix xs zs
prefix_trans xs ys zs p q = (p.0 ++ q.0, sym (append_assoc xs p.0 q.0) ∙ (ap (λ w. w ++ q.0) p.1 ∙ q.1))

pub no-more : {A : Type 0} (xs : List A) → xs ++ [] ≡ xs
no-more [] = refl
no-more (x ∷ xs) = ap (λ l. x ∷ l) (no-more xs)

pub take-few : {A : Type 0} (c : ℕ) (xs : List A) → length (take c xs) ≤ c
take-few zero xs = omega arith
take-few (suc c) [] = omega arith
take-few (suc c) (x ∷ xs) = omega (arith, take-few c xs)

pub split_first : (ks : List ℕ) (k : ℕ) → k ≡ get_or ks 0 k → 1 ≤ length ks → ks ≡ k ∷ take (length ks - 1) (drop 1 ks)
split_first [] k e l = absurd (omega (arith, l))
split_first (j ∷ ks) k e l = ap (λ i. i ∷ ks) (sym e) ∙ ap (λ r. k ∷ r) (sym (take_all (length (j ∷ ks) - 1) ks (omega arith)))

abbrev pub Above : ℕ → List ℕ → Type 0
Above n [] = Unit {0}
Above n (x ∷ xs) = (n < x) × Above n xs

abbrev pub Rises : List ℕ → Type 0
Rises [] = Unit {0}
Rises (x ∷ xs) = Above x xs × Rises xs

pub above_each : (n : ℕ) (xs : List ℕ) → ((j : ℕ) → j < length xs → n < get_or xs j 0) → Above n xs
above_each n [] h = tt
above_each n (x ∷ xs) h = (h 0 (omega arith), above_each n xs (λ j l. h (suc j) (omega arith)))

pub rises_each : (xs : List ℕ) → AllPairs (λ x y. x < y) xs → Rises xs
rises_each [] h = tt
rises_each (x ∷ xs) h = (
  above_each x xs (λ j l. h 0 (suc j) 0 (omega arith) (omega arith)),
  rises_each xs (λ i j d l m. h (suc i) (suc j) d (omega arith) (omega arith)),
)

pub rises_from : (xs : List ℕ) → IsStrictlyIncreasing xs → Rises xs
rises_from xs h = rises_each xs (AllPairs-from_increasing xs h)

pub appends_two : (o m n : Option (List ℕ)) (xs ys zs : List ℕ) → Appends o m xs → Appends m n ys → xs ++ ys ≡ zs → Appends o n zs
appends_two None m n xs ys zs h k e = tt
appends_two (Some a) None n xs ys zs h k e = absurd h
appends_two (Some a) (Some b) None xs ys zs h k e = absurd k
appends_two (Some a) (Some b) (Some c) xs ys zs h k e = k ∙ ap (λ l. l ++ ys) h ∙ append_assoc a xs ys ∙ ap (λ l. a ++ l) e

pub none_left : (bytes : List ℕ) → true ≡ (length bytes == 0) → bytes ≡ []
none_left [] is = refl
none_left (b ∷ bytes) is = absurd (grind arith)
