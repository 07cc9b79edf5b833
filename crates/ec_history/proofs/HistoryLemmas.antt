-- Lemmas on the definitions of `History` that several proofs cite.
use Rattle.std.proofs.Common.{List, [], ◌∷◌, ◌++◌, ◌≡◌, refl, ap}
use Rattle.ec_history.specs.History.{Each, Op, updates}

pub each-more : {A : Type 0} (P : A → Type 0) (xs ys : List A) → Each P xs → Each P ys → Each P (xs ++ ys)
each-more P [] ys h k = k
each-more P (x ∷ xs) ys h k = (h.0, each-more P xs ys h.1 k)

pub updates-append : (ks js : List Op) → updates (ks ++ js) ≡ updates ks ++ updates js
updates-append [] js = refl
updates-append (k ∷ ks) js = ap (λ l. k.update ∷ l) (updates-append ks js)
