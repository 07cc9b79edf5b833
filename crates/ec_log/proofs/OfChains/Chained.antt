-- The numbers of a chain behind those that have left.
use Rattle.std.proofs.Common.{◌≡◌, ◌≤◌, ◌<◌, ◌+◌, ◌-◌, ◌∙◌, refl, sym, ap, subst, arith, ℕ, zero, suc, T, Bool, true, false, List, [], ◌∷◌, ◌++◌, length, take, drop, get_or}
use Rattle.std.specs.Prelude.{◌==◌, ◌||◌}
use Rattle.std.specs.List.Sorted.{IsNonDecreasing}
use Rattle.std.proofs.lemmas.List.{length-drop, drop-drop, take_all, length-take-le}
use Rattle.std.proofs.lemmas.List.Sorted.{IsNonDecreasingBy-drop, IsNonDecreasingBy-take, IsNonDecreasingBy-push}
use Rattle.ec_volume.specs.Update.{member}
use Rattle.ec_log.proofs.OfChains.Numbers.{at-member}

abbrev IsChain : ℕ → List ℕ → Type 0
IsChain gone items = (gone ≤ length items) × IsNonDecreasing (drop gone items)

pub chain-left : (gone count : ℕ) (items now : List ℕ) → IsChain gone items → drop gone items ≡ now → count ≤ length now → IsChain (gone + count) items
chain-left gone count items now inv e l =
    let within : gone ≤ length items = inv.0 in
    let long = length-drop gone items in
    let same = ap length e in (
      omega (arith, within, long, same, l),
      subst IsNonDecreasing (drop-drop count gone items) (IsNonDecreasingBy-drop (λ x. x) count (drop gone items) inv.1),
    )

drop-more : {X : Type 0} (k : ℕ) (xs ys : List X) → k ≤ length xs → drop k (xs ++ ys) ≡ drop k xs ++ ys
drop-more zero xs ys l = refl
drop-more (suc k) [] ys l = absurd (omega (arith, l))
drop-more (suc k) (x ∷ xs) ys l = drop-more k xs ys (omega (arith, l))

take-none : {X : Type 0} (n : ℕ) → ◌≡◌ {A = List X} (take n []) []
take-none zero = refl
take-none (suc n) = refl

drop-front : {X : Type 0} (k j : ℕ) (xs : List X) → drop k (take (k + j) xs) ≡ take j (drop k xs)
drop-front zero j xs = ap (λ n. take n xs) (plain j)
  where
    plain : (j : ℕ) → 0 + j ≡ j
    plain j = omega arith
drop-front (suc k) j [] = ap (drop (suc k)) (take-none (suc k + j)) ∙ sym (take-none j)
drop-front (suc k) j (x ∷ xs) = ap (λ n. drop (suc k) (take n (x ∷ xs))) (next k j) ∙ drop-front k j xs
  where
    next : (k j : ℕ) → suc k + j ≡ suc (k + j)
    next k j = omega arith

same-read : (xs : List ℕ) (i d e : ℕ) → i < length xs → get_or xs i d ≡ get_or xs i e
same-read [] i d e l = absurd (omega (arith, l))
same-read (x ∷ xs) zero d e l = refl
same-read (x ∷ xs) (suc i) d e l = same-read xs i d e (omega (arith, l))

pub chain-items : (gone count op : ℕ) (items now new : List ℕ) → gone ≤ length items → drop gone items ≡ now → count ≤ length now → new ≡ take (gone + count) items ++ op ∷ [] → drop gone new ≡ take count now ++ op ∷ []
chain-items gone count op items now new within e l is =
    let long = length-drop gone items in
    let same = ap length e in
    let front = length-take-le (gone + count) items (omega (arith, within, long, same, l)) in
    ap (drop gone) is
    ∙ drop-more gone (take (gone + count) items) (op ∷ []) (omega (arith, front))
    ∙ ap (λ xs. xs ++ op ∷ []) (drop-front gone count items ∙ ap (take count) e)

pub chain-pushed : (gone count op : ℕ) (items now new : List ℕ) → IsChain gone items → drop gone items ≡ now → count ≤ length now → ((n : ℕ) → T (member n (take count now)) → n < op) → new ≡ take (gone + count) items ++ op ∷ [] → IsChain gone new
chain-pushed gone count op items now new inv e l lower is =
    let within : gone ≤ length items = inv.0 in
    let whole = chain-items gone count op items now new within e l is in
    let long = length-drop gone items in
    let same = ap length e in
    let front = length-take-le (gone + count) items (omega (arith, within, long, same, l)) in
    let more = ap length is in
    let sum = length-more (take (gone + count) items) op in (
      omega (arith, within, front, more, sum),
      subst IsNonDecreasing (sym whole) (IsNonDecreasingBy-push (λ x. x) (take count now) op (IsNonDecreasingBy-take (λ x. x) count now (subst IsNonDecreasing e inv.1)) last),
    )
  where
    length-more : (xs : List ℕ) (x : ℕ) → length xs ≤ length (xs ++ x ∷ [])
    length-more [] x = omega arith
    length-more (y ∷ ys) x = let r = length-more ys x in omega (arith, r)

    last : (d : ℕ) → 0 < length (take count now) → get_or (take count now) (length (take count now) - 1) d ≤ op
    last d some =
        let place : length (take count now) - 1 < length (take count now) = omega (arith, some) in
        let low = lower (get_or (take count now) (length (take count now) - 1) d) (at-member (get_or (take count now) (length (take count now) - 1) d) (length (take count now) - 1) (take count now) place (λ k. same-read (take count now) (length (take count now) - 1) k d place)) in
        omega (arith, low)

pub member-left : (n : ℕ) (xs ys : List ℕ) → T (member n xs) → T (member n (xs ++ ys))
member-left n [] ys t = absurd t
member-left n (x ∷ xs) ys t = go (n == x) t (member-left n xs ys)
  where
    go : (b : Bool) → T (b || member n xs) → (T (member n xs) → T (member n (xs ++ ys))) → T (b || member n (xs ++ ys))
    go true t r = tt
    go false t r = r t

pub tail-is : {X : Type 0} (gone : ℕ) (items now : List X) → now ≡ items → take (length now - gone) (drop gone now) ≡ drop gone items
tail-is gone items now e = take_all (length now - gone) (drop gone now) (let long = length-drop gone now in omega (arith, long)) ∙ ap (drop gone) e
