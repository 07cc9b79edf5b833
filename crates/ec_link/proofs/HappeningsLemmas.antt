-- Lemmas on the definitions of `Happenings` that several proofs cite.
use Rattle.std.proofs.Common.{◌≡◌, List, [], ◌∷◌, ◌++◌, sym, refl, ap, ◌∙◌, append_assoc, append-nil}
use Rattle.ec_link.specs.Happenings.{each}

pub each-append : {A B : Type 0} (f : A → List B) (xs ys : List A) → each f (xs ++ ys) ≡ each f xs ++ each f ys
each-append f [] ys = refl
each-append f (x ∷ xs) ys = ap (λ l. f x ++ l) (each-append f xs ys) ∙ sym (append_assoc (f x) (each f xs) (each f ys))

-- one element more
pub each-push : {A B : Type 0} (f : A → List B) (xs : List A) (x : A) → each f (xs ++ x ∷ []) ≡ each f xs ++ f x
each-push f xs x = each-append f xs (x ∷ []) ∙ ap (λ l. each f xs ++ l) (append-nil (f x))
