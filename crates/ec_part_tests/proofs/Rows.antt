-- A row of numbers that gets one more, for the tests of the lock.
use Rattle.std.proofs.Common.{◌≡◌, ℕ, ◌<◌, ◌⊎◌, length, arith, length-append, Bool, true, false, cond, List, [], ◌∷◌, ◌++◌, Some, IsTrue, MatchBool, refl, sym, ap, ◌∙◌, ⊎_elim, append-nil, eq-eqb, ne_eqb}
use Rattle.std.proofs.lemmas.Bool.{MatchBool-at_true, MatchBool-at_false}
use mathlib.Core.List.{IsPrefix}
use Rattle.ec_lock.specs.Laws.{steps_of}
use Rattle.ec_lock.proofs.Numbers.{of-append}

others_stay : (n m : ℕ) (xs : List ℕ) → ¬ (n ≡ m) → steps_of n xs ≡ steps_of n (xs ++ m ∷ [])
others_stay n m xs differ =
    let none : steps_of n (m ∷ []) ≡ [] = ap (λ b. cond b (m ∷ []) []) (ne_eqb m n (λ e. differ (sym e))) in
    sym (of-append (λ k. Some k) n xs (m ∷ []) ∙ (ap (λ l. steps_of n xs ++ l) none ∙ append-nil (steps_of n xs)))

-- the steps of every other number stay
pub others_kept : (n m : ℕ) (xs ys : List ℕ) (made : Bool) → MatchBool made (ys ≡ xs ++ m ∷ []) (ys ≡ xs) → ¬ (n ≡ m) → steps_of n xs ≡ steps_of n ys
others_kept n m xs ys true is differ = others_stay n m xs differ ∙ ap (steps_of n) (sym is)
others_kept n m xs ys false is differ = ap (steps_of n) (sym is)

-- the number itself gets one
pub own_added : (m : ℕ) (xs ys : List ℕ) (made : Bool) → MatchBool made (ys ≡ xs ++ m ∷ []) (ys ≡ xs) → IsTrue made → steps_of m ys ≡ steps_of m xs ++ m ∷ []
own_added m xs ys true is said =
    let one : steps_of m (m ∷ []) ≡ m ∷ [] = ap (λ b. cond b (m ∷ []) []) (eq-eqb m m refl) in
    ap (steps_of m) is ∙ (of-append (λ k. Some k) m xs (m ∷ []) ∙ ap (λ l. steps_of m xs ++ l) one)
own_added m xs ys false is said = absurd (cc said)

-- who knew nothing and meets a note with one step knows the step
pub known_by : (m : ℕ) (noted front : List ℕ) → steps_of m noted ≡ m ∷ [] → (front ≡ []) ⊎ (front ≡ noted) → IsPrefix noted front → steps_of m front ≡ m ∷ []
known_by m [] front has same begins = absurd (cc has)
known_by m (x ∷ xs) front has same begins = ⊎_elim (λ (e : front ≡ []). absurd (cc (begins.1, e))) (λ (e : front ≡ x ∷ xs). ap (steps_of m) e ∙ has) same

pub longer_by_one : (m : ℕ) (xs ys : List ℕ) (made : Bool) → MatchBool made (ys ≡ xs ++ m ∷ []) (ys ≡ xs) → IsTrue made → 0 < length ys
longer_by_one m xs ys true is said = omega (arith, ap length is ∙ length-append xs (m ∷ []))
longer_by_one m xs ys false is said = absurd (cc said)
