-- Members of lists of numbers, and losses of histories.
use Rattle.std.proofs.Common.{◌≡◌, refl, sym, ap, subst, ◌∙◌, inl, inr, ◌⊎◌, ℕ, T, Bool, true, false, not, ◌==◌, ◌||◌, cond, List, [], ◌∷◌, ◌++◌, Option, Some, None}
use Rattle.std.specs.List.{filter, list_all}
use Rattle.std.proofs.lemmas.Bool.{and_parts, or_left, or_right, eqb-true}
use Rattle.std.proofs.lemmas.List.Folds.{list_any-append}
use Rattle.ec_volume.specs.Update.{member}
use Rattle.ec_history.specs.History.{History, names, is_lost}
use Rattle.ec_base.proofs.Bools.{on, is-true}

pub some_is : {A : Type 0} {x y : A} → Some x ≡ Some y → x ≡ y
some_is q = cc

pub none_some : {A : Type 0} {x : A} → None ≡ Some x → ⊥
none_some q = cc

pub member-left : (n : ℕ) (xs ys : List ℕ) → T (member n xs) → T (member n (xs ++ ys))
member-left n xs ys t = on (list_any-append (λ p. n == p) xs ys ∙ or_left _ _ (is-true _ t))

pub member-right : (n : ℕ) (xs ys : List ℕ) → T (member n ys) → T (member n (xs ++ ys))
member-right n xs ys t = on (list_any-append (λ p. n == p) xs ys ∙ or_right _ _ (is-true _ t))

either : (a b : Bool) → (a || b) ≡ true → T a ⊎ T b
either true b e = inl tt
either false b e = inr (on e)

pub member-parts : (n : ℕ) (xs ys : List ℕ) → T (member n (xs ++ ys)) → T (member n xs) ⊎ T (member n ys)
member-parts n xs ys t = either _ _ (sym (list_any-append (λ p. n == p) xs ys) ∙ is-true _ t)

pub member-all : (p : ℕ → Bool) (n : ℕ) (xs : List ℕ) → T (list_all p xs) → T (member n xs) → T (p n)
member-all p n [] a t = absurd t
member-all p n (x ∷ xs) a t =
    let both = and_parts (p x) (list_all p xs) (is-true _ a) in
    elim (either (n == x) (member n xs) (is-true _ t)) [
      | inl e ↦ subst (λ y. T (p y)) (sym (eqb-true n x (is-true _ e))) (on both.0)
      | inr m ↦ member-all p n xs (on both.1) m
    ]

pub lost-left : (c b n : ℕ) (h g : History) → T (is_lost c b n h) → T (is_lost c b n (h ++ g))
lost-left c b n h g t = on (list_any-append (λ e. names c b n e.1) h g ∙ or_left _ _ (is-true _ t))

pub lost-right : (c b n : ℕ) (h g : History) → T (is_lost c b n g) → T (is_lost c b n (h ++ g))
lost-right c b n h g t = on (list_any-append (λ e. names c b n e.1) h g ∙ or_right _ _ (is-true _ t))

pub lost-parts : (c b n : ℕ) (h g : History) → T (is_lost c b n (h ++ g)) → T (is_lost c b n h) ⊎ T (is_lost c b n g)
lost-parts c b n h g t = either _ _ (sym (list_any-append (λ e. names c b n e.1) h g) ∙ is-true _ t)

-- of the members, some are left
pub left-apart : (n : ℕ) (ns xs : List ℕ) → T (member n (filter (λ m. not (member m ns)) xs)) → T (member n xs) × T (not (member n ns))
left-apart n ns [] t = absurd t
left-apart n ns (x ∷ xs) t = go (member x ns) refl t (λ r. let z = left-apart n ns xs r in (on (or_right (n == x) _ (is-true _ z.0)), z.1))
  where
    go : (m : Bool) → member x ns ≡ m → T (member n (cond (not m) (x ∷ filter (λ k. not (member k ns)) xs) (filter (λ k. not (member k ns)) xs)))
        → (T (member n (filter (λ m. not (member m ns)) xs)) → T (member n (x ∷ xs)) × T (not (member n ns))) → T (member n (x ∷ xs)) × T (not (member n ns))
    go true e r more = more r
    go false e r more = elim (either (n == x) _ (is-true _ r)) [
      | inl q ↦ (on (or_left (n == x) _ (is-true _ q)), subst (λ y. T (not (member y ns))) (sym (eqb-true n x (is-true _ q))) (subst (λ y. T (not y)) (sym e) tt))
      | inr q ↦ more q
    ]

-- a member is among these, or left
pub left-or : (n : ℕ) (ns xs : List ℕ) → T (member n xs) → T (member n ns) ⊎ T (member n (filter (λ m. not (member m ns)) xs))
left-or n ns [] t = absurd t
left-or n ns (x ∷ xs) t = go (n == x) refl t (left-or n ns xs)
  where
    back : (m : Bool) → T (member n (filter (λ k. not (member k ns)) xs)) → T (member n (cond (not m) (x ∷ filter (λ k. not (member k ns)) xs) (filter (λ k. not (member k ns)) xs)))
    back true h = h
    back false h = on (or_right (n == x) _ (is-true _ h))

    here : (m : Bool) → (n == x) ≡ true → member x ns ≡ m → T (member n ns) ⊎ T (member n (cond (not m) (x ∷ filter (λ k. not (member k ns)) xs) (filter (λ k. not (member k ns)) xs)))
    here true e f = inl (on (ap (λ y. member y ns) (eqb-true n x e) ∙ f))
    here false e f = inr (on (or_left (n == x) _ e))

    go : (b : Bool) → (n == x) ≡ b → T (b || member n xs) → (T (member n xs) → T (member n ns) ⊎ T (member n (filter (λ m. not (member m ns)) xs)))
        → T (member n ns) ⊎ T (member n (cond (not (member x ns)) (x ∷ filter (λ k. not (member k ns)) xs) (filter (λ k. not (member k ns)) xs)))
    go true e t f = here (member x ns) e refl
    go false e t f = elim (f t) [ inl h ↦ inl h | inr h ↦ inr (back (member x ns) h) ]
