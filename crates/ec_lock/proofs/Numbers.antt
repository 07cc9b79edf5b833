-- Steps by the number of their pass.
use Rattle.std.proofs.Common.{◌≡◌, ℕ, ◌⊎◌, Bool, true, false, cond, List, [], ◌∷◌, ◌++◌, Option, refl, sym, ap, ◌∙◌, subst, inl, inr, ⊎_elim, append-nil}
use mathlib.Core.List.{IsPrefix}
use Rattle.ec_lock.specs.Steps.{Member, Distinct, is_number, of}

module _ {S : Type 0} (number : S → Option ℕ) where
  onto : (b : Bool) (x : S) (xs ys zs : List S) → zs ≡ xs ++ ys → cond b (x ∷ zs) zs ≡ cond b (x ∷ xs) xs ++ ys
  onto true x xs ys zs e = ap (λ l. x ∷ l) e
  onto false x xs ys zs e = e

  pub of-append : (n : ℕ) (xs ys : List S) → of number n (xs ++ ys) ≡ of number n xs ++ of number n ys
  of-append n [] ys = refl
  of-append n (x ∷ xs) ys = onto (is_number n (number x)) x (of number n xs) (of number n ys) (of number n (xs ++ ys)) (of-append n xs ys)

  nothing : (xs ys zs : List S) → (xs ++ ys) ++ zs ≡ xs → ys ≡ []
  nothing [] [] zs e = refl
  nothing [] (y ∷ ys) zs e = absurd (cc e)
  nothing (x ∷ xs) ys zs e = nothing xs ys zs (cc e)

  -- a list between two with the same steps of n has them too
  pub of_between : (n : ℕ) (xs ys zs : List S) → IsPrefix xs ys → IsPrefix ys zs → of number n xs ≡ of number n zs → of number n ys ≡ of number n zs
  of_between n xs ys zs p q e =
      let a : of number n xs ++ of number n p.0 ≡ of number n ys = sym (of-append n xs p.0) ∙ ap (of number n) p.1 in
      let b : of number n ys ++ of number n q.0 ≡ of number n zs = sym (of-append n ys q.0) ∙ ap (of number n) q.1 in
      let none : of number n p.0 ≡ [] = nothing (of number n xs) (of number n p.0) (of number n q.0) (ap (λ l. l ++ of number n q.0) a ∙ (b ∙ sym e)) in
      sym a ∙ (ap (λ l. of number n xs ++ l) none ∙ (append-nil (of number n xs) ∙ e))

pub member_append : (n : ℕ) (xs ys : List ℕ) → Member n (xs ++ ys) → Member n xs ⊎ Member n ys
member_append n [] ys m = inr m
member_append n (x ∷ xs) ys m = ⊎_elim (λ (e : x ≡ n). inl (inl e)) (λ (r : Member n (xs ++ ys)). ⊎_elim (λ (a : Member n xs). inl (inr a)) (λ (b : Member n ys). inr b) (member_append n xs ys r)) m

pub member_left : (n : ℕ) (xs ys : List ℕ) → Member n xs → Member n (xs ++ ys)
member_left n [] ys m = absurd m
member_left n (x ∷ xs) ys m = ⊎_elim (λ (e : x ≡ n). inl e) (λ (r : Member n xs). inr (member_left n xs ys r)) m

pub member_right : (n : ℕ) (xs ys : List ℕ) → Member n ys → Member n (xs ++ ys)
member_right n [] ys m = m
member_right n (x ∷ xs) ys m = inr (member_right n xs ys m)

-- two lists without a number in common, and none twice in either
pub distinct_append : (xs ys : List ℕ) → Distinct xs → Distinct ys → ((n : ℕ) → Member n xs → Member n ys → ⊥) → Distinct (xs ++ ys)
distinct_append [] ys dx dy apart = dy
distinct_append (x ∷ xs) ys dx dy apart = (
  (λ m. ⊎_elim (λ (a : Member x xs). dx.0 a) (λ (b : Member x ys). apart x (inl refl) b) (member_append x xs ys m)),
  distinct_append xs ys dx.1 dy (λ n a b. apart n (inr a) b),
)

pub distinct_apart : (n : ℕ) (xs ys : List ℕ) → Distinct (xs ++ ys) → Member n xs → Member n ys → ⊥
distinct_apart n [] ys d a b = absurd a
distinct_apart n (x ∷ xs) ys d a b = ⊎_elim (λ (e : x ≡ n). d.0 (member_right x xs ys (subst (λ k. Member k ys) (sym e) b))) (λ (m : Member n xs). distinct_apart n xs ys d.1 m b) a
