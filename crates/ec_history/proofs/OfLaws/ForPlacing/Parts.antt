-- Sets that hold what their members need: parts of them, and two of them together.
use Rattle.std.proofs.Common.{◌≡◌, refl, sym, ap, ◌∙◌, inl, inr, T, Bool, true, false, not, ◌&&◌, ◌||◌, cond, List, [], ◌∷◌}
use Rattle.std.proofs.lemmas.Bool.{cases_Bool, and_parts, and_from, true≢false}
use Rattle.std.specs.List.{list_all, filter}
use Rattle.ec_volume.specs.declared.update.Update.{Update}
use Rattle.ec_order.specs.Order.{needs}
use Rattle.ec_history.specs.OfLaws.Needs.{holds_needed}
use Rattle.ec_history.proofs.OfLaws.ForPlacing.Pulled.{needed-part}
use Rattle.ec_base.proofs.Bools.{on as holds, is-true}

module _ {A : Type 0} (update : A → Update) where
  -- of x, none of these inside needs it
  abbrev unneeded : (A → Bool) → A → List A → Bool
  unneeded inside x ys = list_all (λ y. not (inside y && needs (update x) (update y))) ys

  -- a set without another one, of the operations outside that one
  fewer : (inside taken : A → Bool) (x : A) (ys : List A) → unneeded inside x ys ≡ true → unneeded (λ y. inside y && not (taken y)) x ys ≡ true
  fewer inside taken x [] h = refl
  fewer inside taken x (y ∷ ys) h =
      let parts = and_parts (not (inside y && needs (update x) (update y))) (unneeded inside x ys) h in
      and_from (not ((inside y && not (taken y)) && needs (update x) (update y))) (unneeded (λ y. inside y && not (taken y)) x ys) (go (inside y) (taken y) (needs (update x) (update y)) parts.0) (fewer inside taken x ys parts.1)
    where
      go : (i t n : Bool) → not (i && n) ≡ true → not ((i && not t) && n) ≡ true
      go true true n e = refl
      go true false n e = e
      go false t n e = refl

  minus : (inside taken : A → Bool) (xs : List A) → holds_needed update inside xs ≡ true → holds_needed update (λ x. inside x && not (taken x)) (filter (λ x. not (taken x)) xs) ≡ true
  minus inside taken xs h = go (filter (λ x. not (taken x)) xs) (needed-part update inside (λ x. not (taken x)) xs h) (untaken xs)
    where
      untaken : (ys : List A) → list_all (λ x. not (taken x)) (filter (λ x. not (taken x)) ys) ≡ true
      untaken [] = refl
      untaken (y ∷ ys) = elim (cases_Bool (taken y)) [
        | inl e ↦ ap (λ b. list_all (λ x. not (taken x)) (cond (not b) (y ∷ filter (λ x. not (taken x)) ys) (filter (λ x. not (taken x)) ys))) e ∙ untaken ys
        | inr e ↦
            ap (λ b. list_all (λ x. not (taken x)) (cond (not b) (y ∷ filter (λ x. not (taken x)) ys) (filter (λ x. not (taken x)) ys))) e
            ∙ and_from (not (taken y)) (list_all (λ x. not (taken x)) (filter (λ x. not (taken x)) ys)) (ap not e) (untaken ys)
      ]

      go : (ys : List A) → holds_needed update inside ys ≡ true → list_all (λ x. not (taken x)) ys ≡ true → holds_needed update (λ x. inside x && not (taken x)) ys ≡ true
      go [] h u = refl
      go (y ∷ ys) h u =
          let parts = and_parts (inside y || unneeded inside y ys) (holds_needed update inside ys) h in
          let outside = and_parts (not (taken y)) (list_all (λ x. not (taken x)) ys) u in
          and_from ((inside y && not (taken y)) || unneeded (λ x. inside x && not (taken x)) y ys) (holds_needed update (λ x. inside x && not (taken x)) ys)
          (first (inside y) (not (taken y)) outside.0 parts.0 (fewer inside taken y ys)) (go ys parts.1 outside.1)
        where
          first : (i n : Bool) → n ≡ true → (i || unneeded inside y ys) ≡ true → (unneeded inside y ys ≡ true → unneeded (λ x. inside x && not (taken x)) y ys ≡ true) → ((i && n) || unneeded (λ x. inside x && not (taken x)) y ys) ≡ true
          first true true e h f = refl
          first true false e h f = absurd (true≢false (sym e))
          first false n e h f = f h

  -- a set, and another one of the operations outside it
  more : (inside next : A → Bool) (x : A) (ys : List A) → unneeded inside x ys ≡ true → unneeded next x (filter (λ y. not (inside y)) ys) ≡ true → unneeded (λ y. inside y || next y) x ys ≡ true
  more inside next x [] h k = refl
  more inside next x (y ∷ ys) h k = elim (cases_Bool (inside y)) [
    | inl e ↦
        let parts = and_parts (not (inside y && needs (update x) (update y))) (unneeded inside x ys) h in
        and_from (not ((inside y || next y) && needs (update x) (update y))) (unneeded (λ y. inside y || next y) x ys)
        (ap (λ b. not ((b || next y) && needs (update x) (update y))) e ∙ sym (ap (λ b. not (b && needs (update x) (update y))) e) ∙ parts.0)
        (more inside next x ys parts.1 (sym (ap (λ b. unneeded next x (cond (not b) (y ∷ filter (λ y. not (inside y)) ys) (filter (λ y. not (inside y)) ys))) e) ∙ k))
    | inr e ↦
        let parts = and_parts (not (inside y && needs (update x) (update y))) (unneeded inside x ys) h in
        let rest = and_parts (not (next y && needs (update x) (update y))) (unneeded next x (filter (λ y. not (inside y)) ys)) (sym (ap (λ b. unneeded next x (cond (not b) (y ∷ filter (λ y. not (inside y)) ys) (filter (λ y. not (inside y)) ys))) e) ∙ k) in
        and_from (not ((inside y || next y) && needs (update x) (update y))) (unneeded (λ y. inside y || next y) x ys)
        (ap (λ b. not ((b || next y) && needs (update x) (update y))) e ∙ rest.0) (more inside next x ys parts.1 rest.1)
  ]

  joined : (inside next : A → Bool) (xs : List A) → holds_needed update inside xs ≡ true → holds_needed update next (filter (λ x. not (inside x)) xs) ≡ true → holds_needed update (λ x. inside x || next x) xs ≡ true
  joined inside next [] h k = refl
  joined inside next (x ∷ xs) h k = elim (cases_Bool (inside x)) [
    | inl e ↦
        and_from ((inside x || next x) || unneeded (λ y. inside y || next y) x xs) (holds_needed update (λ x. inside x || next x) xs)
        (ap (λ b. (b || next x) || unneeded (λ y. inside y || next y) x xs) e)
        (joined inside next xs parts.1 (sym (ap (λ b. holds_needed update next (cond (not b) (x ∷ filter (λ x. not (inside x)) xs) (filter (λ x. not (inside x)) xs))) e) ∙ k))
    | inr e ↦
        let rest = and_parts (next x || unneeded next x (filter (λ x. not (inside x)) xs)) (holds_needed update next (filter (λ x. not (inside x)) xs))
        (sym (ap (λ b. holds_needed update next (cond (not b) (x ∷ filter (λ x. not (inside x)) xs) (filter (λ x. not (inside x)) xs))) e) ∙ k) in
        and_from ((inside x || next x) || unneeded (λ y. inside y || next y) x xs) (holds_needed update (λ x. inside x || next x) xs)
        (ap (λ b. (b || next x) || unneeded (λ y. inside y || next y) x xs) e ∙ first (next x) (sym (ap (λ b. b || unneeded inside x xs) e) ∙ parts.0) rest.0 (more inside next x xs))
        (joined inside next xs parts.1 rest.1)
  ]
    where
      parts : ((inside x || unneeded inside x xs) ≡ true) × (holds_needed update inside xs ≡ true)
      parts = and_parts (inside x || unneeded inside x xs) (holds_needed update inside xs) h

      first : (n : Bool) → unneeded inside x xs ≡ true → (n || unneeded next x (filter (λ x. not (inside x)) xs)) ≡ true
          → (unneeded inside x xs ≡ true → unneeded next x (filter (λ x. not (inside x)) xs) ≡ true → unneeded (λ y. inside y || next y) x xs ≡ true) → (n || unneeded (λ y. inside y || next y) x xs) ≡ true
      first true h k f = refl
      first false h k f = f h k

  pub needs-part : (inside part : A → Bool) (xs : List A) → T (holds_needed update inside xs) → T (holds_needed update inside (filter part xs))
  needs-part inside part xs h = holds (needed-part update inside part xs (is-true _ h))

  pub needs-minus : (inside taken : A → Bool) (xs : List A) → T (holds_needed update inside xs) → T (holds_needed update (λ x. inside x && not (taken x)) (filter (λ x. not (taken x)) xs))
  needs-minus inside taken xs h = holds (minus inside taken xs (is-true _ h))

  pub needs-joined : (inside next : A → Bool) (xs : List A) → T (holds_needed update inside xs) → T (holds_needed update next (filter (λ x. not (inside x)) xs)) → T (holds_needed update (λ x. inside x || next x) xs)
  needs-joined inside next xs h k = holds (joined inside next xs (is-true _ h) (is-true _ k))
