-- The names of a directory, one after the other.
use Rattle.std.proofs.Common.{◌≡◌, ℕ, zero, suc, List, [], ◌∷◌, ◌++◌, Some, length, take, sym, ap, ◌∙◌, add-one}
use Rattle.std.specs.Prelude.{map, slice_get}
use Rattle.std.proofs.lemmas.List.{length_push}
use Rattle.ec_volume.specs.Entries.{Entries}

front_more : (es : Entries) (n : ℕ) (e : List ℕ × ℕ) → slice_get es n ≡ Some e → map (λ x. x.0) (take (suc n) es) ≡ map (λ x. x.0) (take n es) ++ e.0 ∷ []
front_more [] n e g = cc
front_more (x ∷ es) zero e g = let same : x ≡ e = cc in ap (λ (y : List ℕ × ℕ). y.0 ∷ []) same
front_more (x ∷ es) (suc n) e g = ap (λ ys. x.0 ∷ ys) (front_more es n e g)

pub one_more_name : (es : Entries) (names new : List (List ℕ)) (e : List ℕ × ℕ) → names ≡ map (λ x. x.0) (take (length names) es) → slice_get es (length names) ≡ Some e → new ≡ names ++ e.0 ∷ [] → new ≡ map (λ x. x.0) (take (length new) es)
one_more_name es names new e h g more =
    let longer : length new ≡ suc (length names) = ap length more ∙ length_push names e.0 ∙ add-one (length names) in
    rw longer (more ∙ ap (λ ns. ns ++ e.0 ∷ []) h ∙ sym (front_more es (length names) e g))
