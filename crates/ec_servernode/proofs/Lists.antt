-- Beginnings of a list, steps by the number of their pass, and a list with one element more.
use Rattle.std.proofs.Common.{◌≡◌, ◌⊎◌, ℕ, cond, List, [], ◌∷◌, ◌++◌, Option, refl, ap, sym, ◌∙◌, inl, inr, ⊎_elim, eq-eqb, ne_eqb, append-nil}
use mathlib.Core.List.{IsPrefix}
use Rattle.ec_lock.specs.Steps.{of}
use Rattle.ec_servernode.specs.declared.step.Step.{Step}
use Rattle.ec_servernode.specs.Run.{number_of}
use Rattle.ec_servernode.specs.OwnSteps.{By}
use Rattle.ec_lock.proofs.StepsLemmas.{of-append}

pub prefix_self : {A : Type 0} (xs : List A) → IsPrefix xs xs
prefix_self xs = ([], append-nil xs)

pub of_own : (pass : ℕ) (more : List Step) → By pass more → of number_of pass more ≡ more
of_own pass [] h = refl
of_own pass (s ∷ ss) h = ap (λ b. cond b (s ∷ of number_of pass ss) (of number_of pass ss)) (eq-eqb s.pass pass h.0) ∙ ap (λ l. s ∷ l) (of_own pass ss h.1)

pub of_others : (pass n : ℕ) (more : List Step) → By pass more → ¬ (n ≡ pass) → of number_of n more ≡ []
of_others pass n [] h ne = refl
of_others pass n (s ∷ ss) h ne = ap (λ b. cond b (s ∷ of number_of n ss) (of number_of n ss)) (ne_eqb s.pass n (λ e. ne (sym e ∙ h.0))) ∙ of_others pass n ss h.1 ne

nothing : {A : Type 0} (xs ys : List A) → xs ++ ys ≡ xs → ys ≡ []
nothing [] ys e = e
nothing (x ∷ xs) ys e = nothing xs ys (cc e)

-- a longer list with the same steps of n has none of n behind
pub none_more : {S : Type 0} (number : S → Option ℕ) (n : ℕ) (xs more ys : List S) → xs ++ more ≡ ys → of number n xs ≡ of number n ys → of number n more ≡ []
none_more number n xs more ys e same = nothing (of number n xs) (of number n more) (sym (of-append number n xs more) ∙ (ap (of number n) e ∙ sym same))

-- an element of a list with one more at its end stands in the list before, or is that one
pub last_or_before : {A : Type 0} (before : List A) (y : A) (rest xs : List A) (x : A) → before ++ y ∷ rest ≡ xs ++ x ∷ [] → ((left : List A) × (before ++ y ∷ left ≡ xs)) ⊎ ((before ≡ xs) × (y ≡ x))
last_or_before [] y rest [] x e = inr (refl, cc e)
last_or_before [] y rest (z ∷ xs) x e = let same : y ≡ z = cc e in inl (xs, ap (λ w. w ∷ xs) same)
last_or_before (b ∷ bs) y rest [] x e = absurd (no bs y rest (cc e)) where
  no : {A : Type 0} (bs : List A) (y : A) (rest : List A) → bs ++ y ∷ rest ≡ [] → ⊥
  no [] y rest e = cc e
  no (b ∷ bs) y rest e = cc e
last_or_before (b ∷ bs) y rest (z ∷ xs) x e =
    let same : b ≡ z = cc e in
    let more : bs ++ y ∷ rest ≡ xs ++ x ∷ [] = cc e in
    ⊎_elim (λ h. inl (h.0, ap (λ w. w ∷ (bs ++ y ∷ h.0)) same ∙ ap (λ l. z ∷ l) h.1)) (λ h. inr (ap (λ w. w ∷ bs) same ∙ ap (λ l. z ∷ l) h.0, h.1)) (last_or_before bs y rest xs x more)
