-- Tests of lists whose members are mapped.
use Rattle.std.proofs.Common.{◌≡◌, refl, ap₂, ◌∙◌, Bool, true, false, ◌&&◌, ◌||◌, cond, List, [], ◌∷◌, map}
use Rattle.std.specs.List.{filter, list_any, list_all}

module _ {A B : Type 0} (f : A → B) where
  pub cond-map : (b : Bool) (xs ys : List A) → cond b (map f xs) (map f ys) ≡ map f (cond b xs ys)
  cond-map true xs ys = refl
  cond-map false xs ys = refl

  module _ (p : B → Bool) (q : A → Bool) (same : (x : A) → p (f x) ≡ q x) where
    pub filter-map : (xs : List A) → filter p (map f xs) ≡ map f (filter q xs)
    filter-map [] = refl
    filter-map (x ∷ xs) = (λ i. cond (same x i) (f x ∷ filter-map xs i) (filter-map xs i)) ∙ cond-map (q x) (x ∷ filter q xs) (filter q xs)

    pub any-map : (xs : List A) → list_any p (map f xs) ≡ list_any q xs
    any-map [] = refl
    any-map (x ∷ xs) = ap₂ (λ a b. a || b) (same x) (any-map xs)

    pub all-map : (xs : List A) → list_all p (map f xs) ≡ list_all q xs
    all-map [] = refl
    all-map (x ∷ xs) = ap₂ (λ a b. a && b) (same x) (all-map xs)
