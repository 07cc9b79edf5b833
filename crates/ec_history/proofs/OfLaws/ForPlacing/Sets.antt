-- Lists of numbers as sets.
use Rattle.std.proofs.Common.{◌≡◌, ◌≢◌, refl, sym, ap, subst, ◌∙◌, inl, inr, arith, ◌<◌, ℕ, T, Bool, true, false, ◌==◌, ◌||◌, List, [], ◌∷◌, ltb}
use Rattle.std.proofs.lemmas.Bool.{cases_Bool, eqb-true, ltb-true}
use Rattle.std.specs.List.{list_all}
use Rattle.ec_volume.specs.Update.{member}
use Rattle.ec_history.specs.Placing.{same_numbers}
use Rattle.ec_base.specs.SmallLaws.{rises}
use Rattle.ec_base.proofs.Bools.{both, first as left, right, is-true}

-- a number at the front, and one behind it
at_front : (x : ℕ) (xs : List ℕ) → T (member x (x ∷ xs))
at_front x xs = subst (λ c. T (c || member x xs)) (sym (same x)) tt
  where
    same : (x : ℕ) → (x == x) ≡ true
    same x = grind arith

pub behind : (n x : ℕ) (xs : List ℕ) → T (member n xs) → T (member n (x ∷ xs))
behind n x xs m = go (n == x)
  where
    go : (b : Bool) → T (b || member n xs)
    go true = tt
    go false = m

all_in : (ns xs : List ℕ) → ((n : ℕ) → T (member n xs) → T (member n ns)) → T (list_all (λ n. member n ns) xs)
all_in ns [] h = tt
all_in ns (x ∷ xs) h = both (member x ns) (list_all (λ n. member n ns) xs) (h x (at_front x xs)) (all_in ns xs (λ n m. h n (behind n x xs m)))

pub same-self : (ns : List ℕ) → T (same_numbers ns ns)
same-self ns = let own : T (list_all (λ n. member n ns) ns) = all_in ns ns (λ n m. m) in both (list_all (λ n. member n ns) ns) (list_all (λ m. member m ns) ns) own own

-- what is in a list with a number before it is that number, or in the list
one_or : (n x : ℕ) (xs : List ℕ) → T (member n (x ∷ xs)) → (n ≢ x) → T (member n xs)
one_or n x xs m apart = elim (cases_Bool (n == x)) [ inl e ↦ absurd (apart (eqb-true n x e)) | inr e ↦ subst (λ b. T (b || member n xs)) e m ]

in_all : (p : ℕ → Bool) (xs : List ℕ) (n : ℕ) → T (list_all p xs) → T (member n xs) → T (p n)
in_all p [] n h m = absurd m
in_all p (x ∷ xs) n h m = elim (cases_Bool (n == x)) [
  | inl e ↦ subst (λ y. T (p y)) (sym (eqb-true n x e)) (left (p x) (list_all p xs) h)
  | inr e ↦ in_all p xs n (right (p x) (list_all p xs) h) (subst (λ b. T (b || member n xs)) e m)
]

above : (x : ℕ) (xs : List ℕ) (n : ℕ) → T (list_all (λ m. ltb x m) xs) → T (member n xs) → x < n
above x xs n h m = ltb-true x n (is-true (ltb x n) (in_all (λ k. ltb x k) xs n h m))

-- the rest of a list among the rest of another, of rising lists with the same first number
rest_in : (x : ℕ) (xs ys zs : List ℕ) → T (list_all (λ m. ltb x m) xs) → ((n : ℕ) → T (member n zs) → T (member n xs)) → T (list_all (λ n. member n (x ∷ ys)) zs) → T (list_all (λ n. member n ys) zs)
rest_in x xs ys [] low among h = tt
rest_in x xs ys (z ∷ zs) low among h =
    let lt : x < z = above x xs z low (among z (at_front z zs)) in
    both (member z ys) (list_all (λ n. member n ys) zs) (one_or z x ys (left (member z (x ∷ ys)) _ h) (λ e. omega (arith, e, lt)))
    (rest_in x xs ys zs low (λ n m. among n (behind n z zs m)) (right (member z (x ∷ ys)) _ h))

pub rising-same : (ns ms : List ℕ) → T (rises ns) → T (rises ms) → T (same_numbers ns ms) → ns ≡ ms
rising-same [] [] r s h = refl
rising-same [] (m ∷ ms) r s h = absurd (left (member m []) (list_all (λ k. member k []) ms) h)
rising-same (n ∷ ns) [] r s h = absurd (left (member n []) (list_all (λ k. member k []) ns) (left (list_all (λ k. member k []) (n ∷ ns)) (list_all (λ k. member k (n ∷ ns)) []) h))
rising-same (n ∷ ns) (m ∷ ms) r s h =
    let one : T (list_all (λ k. member k (m ∷ ms)) (n ∷ ns)) = left (list_all (λ k. member k (m ∷ ms)) (n ∷ ns)) (list_all (λ k. member k (n ∷ ns)) (m ∷ ms)) h in
    let two : T (list_all (λ k. member k (n ∷ ns)) (m ∷ ms)) = right (list_all (λ k. member k (m ∷ ms)) (n ∷ ns)) (list_all (λ k. member k (n ∷ ns)) (m ∷ ms)) h in
    let low : T (list_all (λ k. ltb n k) ns) = left (list_all (λ k. ltb n k) ns) (rises ns) r in
    let low' : T (list_all (λ k. ltb m k) ms) = left (list_all (λ k. ltb m k) ms) (rises ms) s in
    let same : n ≡ m = first low low' (left (member n (m ∷ ms)) (list_all (λ k. member k (m ∷ ms)) ns) one) (left (member m (n ∷ ns)) (list_all (λ k. member k (n ∷ ns)) ms) two) in
    let rest : T (same_numbers ns ms) =
    both (list_all (λ k. member k ms) ns) (list_all (λ k. member k ns) ms)
    (rest_in n ns ms ns low (λ k x. x) (subst (λ x. T (list_all (λ k. member k (x ∷ ms)) ns)) (sym same) (right (member n (m ∷ ms)) (list_all (λ k. member k (m ∷ ms)) ns) one)))
    (rest_in n ms ns ms (subst (λ x. T (list_all (λ k. ltb x k) ms)) (sym same) low') (λ k x. x) (right (member m (n ∷ ns)) (list_all (λ k. member k (n ∷ ns)) ms) two)) in
    ap (λ x. x ∷ ns) same ∙ ap (λ xs. m ∷ xs) (rising-same ns ms (right (list_all (λ k. ltb n k) ns) (rises ns) r) (right (list_all (λ k. ltb m k) ms) (rises ms) s) rest)
  where
    first : T (list_all (λ k. ltb n k) ns) → T (list_all (λ k. ltb m k) ms) → T (member n (m ∷ ms)) → T (member m (n ∷ ns)) → n ≡ m
    first low low' a b = elim (cases_Bool (n == m)) [
      | inl e ↦ eqb-true n m e
      | inr e ↦
          let lt : m < n = above m ms n low' (subst (λ c. T (c || member n ms)) e a) in
          elim (cases_Bool (m == n)) [
            | inl f ↦ sym (eqb-true m n f)
            | inr f ↦ let gt : n < m = above n ns m low (subst (λ c. T (c || member m ns)) f b) in absurd (omega (arith, lt, gt))
          ]
    ]
