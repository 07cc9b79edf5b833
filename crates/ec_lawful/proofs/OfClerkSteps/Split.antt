-- One list split at two places.
use Rattle.std.proofs.Common.{◌≡◌, refl, sym, ap, ◌∙◌, inl, inr, ◌⊎◌, Bool, true, false, ◌||◌, List, [], ◌∷◌, ◌++◌}
use Rattle.std.specs.List.{list_any}
use Rattle.std.proofs.lemmas.Bool.{true≢false}
use Rattle.std.proofs.lemmas.List.Folds.{list_any-append}

module _ {A : Type 0} where
  heads : (x y : A) (xs ys : List A) → x ∷ xs ≡ y ∷ ys → x ≡ y
  heads x y xs ys e = cc

  tails : (x y : A) (xs ys : List A) → x ∷ xs ≡ y ∷ ys → xs ≡ ys
  tails x y xs ys e = cc

  module _ (p : A → Bool) where
    -- one that passes is among these
    passing : (xs ys : List A) (y : A) → p y ≡ true → list_any p (xs ++ y ∷ ys) ≡ true
    passing xs ys y e = list_any-append p xs (y ∷ ys) ∙ ap (λ b. list_any p xs || (b || list_any p ys)) e ∙ or-true (list_any p xs)
      where
        or-true : (b : Bool) → (b || true) ≡ true
        or-true true = refl
        or-true false = refl

    -- the last that passes is at one place
    pub last-same : (xs xs2 ys ys2 : List A) (x y : A) → p x ≡ true → p y ≡ true → list_any p xs2 ≡ false → list_any p ys2 ≡ false → xs ++ x ∷ xs2 ≡ ys ++ y ∷ ys2 → (xs ≡ ys) × (x ≡ y) × (xs2 ≡ ys2)
    last-same [] xs2 [] ys2 x y a b m n e = (refl, heads x y xs2 ys2 e, tails x y xs2 ys2 e)
    last-same [] xs2 (z ∷ ys) ys2 x y a b m n e = absurd (true≢false (sym (passing ys ys2 y b) ∙ ap (list_any p) (sym (tails x z xs2 (ys ++ y ∷ ys2) e)) ∙ m))
    last-same (z ∷ xs) xs2 [] ys2 x y a b m n e = absurd (true≢false (sym (passing xs xs2 x a) ∙ ap (list_any p) (tails z y (xs ++ x ∷ xs2) ys2 e) ∙ n))
    last-same (z ∷ xs) xs2 (w ∷ ys) ys2 x y a b m n e =
        let r = last-same xs xs2 ys ys2 x y a b m n (tails z w (xs ++ x ∷ xs2) (ys ++ y ∷ ys2) e) in
        (ap (λ v. v ∷ xs) (heads z w (xs ++ x ∷ xs2) (ys ++ y ∷ ys2) e) ∙ ap (λ v. w ∷ v) r.0, r.1, r.2)

    -- of two that differ one stands before the other
    pub apart-splits : (xs xs2 ys ys2 : List A) (x y : A) → p x ≡ true → p y ≡ false → xs ++ x ∷ xs2 ≡ ys ++ y ∷ ys2
        → ((ms : List A) × (ys ≡ xs ++ x ∷ ms) × (xs2 ≡ ms ++ y ∷ ys2)) ⊎ ((ms : List A) × (xs ≡ ys ++ y ∷ ms) × (ys2 ≡ ms ++ x ∷ xs2))
    apart-splits [] xs2 [] ys2 x y a b e = absurd (true≢false (sym a ∙ ap p (heads x y xs2 ys2 e) ∙ b))
    apart-splits [] xs2 (z ∷ ys) ys2 x y a b e = inl (ys, ap (λ v. v ∷ ys) (sym (heads x z xs2 (ys ++ y ∷ ys2) e)), tails x z xs2 (ys ++ y ∷ ys2) e)
    apart-splits (z ∷ xs) xs2 [] ys2 x y a b e = inr (xs, ap (λ v. v ∷ xs) (heads z y (xs ++ x ∷ xs2) ys2 e), sym (tails z y (xs ++ x ∷ xs2) ys2 e))
    apart-splits (z ∷ xs) xs2 (w ∷ ys) ys2 x y a b e = elim (apart-splits xs xs2 ys ys2 x y a b (tails z w (xs ++ x ∷ xs2) (ys ++ y ∷ ys2) e)) [
      | inl r ↦ inl (r.0, ap (λ v. v ∷ ys) (sym (heads z w (xs ++ x ∷ xs2) (ys ++ y ∷ ys2) e)) ∙ ap (λ v. z ∷ v) r.1, r.2)
      | inr r ↦ inr (r.0, ap (λ v. v ∷ xs) (heads z w (xs ++ x ∷ xs2) (ys ++ y ∷ ys2) e) ∙ ap (λ v. w ∷ v) r.1, r.2)
    ]
