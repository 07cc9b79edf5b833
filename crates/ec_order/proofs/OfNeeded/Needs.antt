-- What is needed when one more operation is chosen.
use Rattle.std.proofs.Common.{◌≡◌, ◌⊎◌, inl, inr, refl, sym, ap, subst, ◌∙◌, ℕ, Bool, true, false, cond, List, [], ◌∷◌, ◌++◌, length, Option, None, Some}
use Rattle.std.specs.Prelude.{◌==◌, not, ◌&&◌, ◌||◌, is_some}
use Rattle.std.specs.List.{list_any}
use Rattle.std.proofs.lemmas.Bool.{eqb-true}
use Rattle.std.proofs.lemmas.List.Folds.{list_any-append}
use Rattle.ec_base.specs.Tables.{at, at_or, or_else}
use Rattle.ec_volume.specs.Update.{operands, member}
use Rattle.ec_volume.specs.declared.update.Update.{Update}
use Rattle.ec_volume.specs.declared.update.Update.TheVariants.{Make, Drop, Move, Put, Len, Mode, Stamp, Order, Shift, Owner}
use Rattle.ec_order.specs.Order.{is_overwrite, share, under, needs, meet}
use Rattle.ec_order.specs.declared.needed.needed.Range.{Range}
use Rattle.ec_order.specs.OfNeeded.Needed.{Others, Ranges, range_of, is_on, is_needed}
use Rattle.ec_base.proofs.Bools.{or_false}

-- An update is an overwrite of a range or none.

pub record IsRange (x : Update) : Type 0 where
  pub obj : ℕ
  pub place : ℕ
  pub bytes : List ℕ
  pub is : x ≡ Put obj place bytes true

pub record Plain (x : Update) : Type 0 where
  pub is : is_overwrite x ≡ false
  pub none : range_of x ≡ None
  pub lower : (y : Update) → under x y ≡ false
  pub upper : (o m : ℕ) (xs : List ℕ) → under (Put o m xs true) x ≡ false
  pub wanted : (others : Others) (ranges : Ranges) → is_needed others ranges x ≡ list_any (λ o. is_on o others ranges) (operands x)

pub look : (x : Update) → IsRange x ⊎ Plain x
look (Put o m xs true) = inl (record { obj = o; place = m; bytes = xs; is = refl })
look (Put o m xs false) = inr (record { is = refl; none = refl; lower = λ y. refl; upper = λ o m xs. refl; wanted = λ o r. refl })
look (Make dir name obj k) = inr (record { is = refl; none = refl; lower = λ y. refl; upper = λ o m xs. refl; wanted = λ o r. refl })
look (Drop dir name obj k) = inr (record { is = refl; none = refl; lower = λ y. refl; upper = λ o m xs. refl; wanted = λ o r. refl })
look (Move dir from to obj k victim) = inr (record { is = refl; none = refl; lower = λ y. refl; upper = λ o m xs. refl; wanted = λ o r. refl })
look (Len obj len) = inr (record { is = refl; none = refl; lower = λ y. refl; upper = λ o m xs. refl; wanted = λ o r. refl })
look (Mode obj mode) = inr (record { is = refl; none = refl; lower = λ y. refl; upper = λ o m xs. refl; wanted = λ o r. refl })
look (Stamp obj stamp) = inr (record { is = refl; none = refl; lower = λ y. refl; upper = λ o m xs. refl; wanted = λ o r. refl })
look (Order objs) = inr (record { is = refl; none = refl; lower = λ y. refl; upper = λ o m xs. refl; wanted = λ o r. refl })
look (Shift dir from into to obj k victim up) = inr (record { is = refl; none = refl; lower = λ y. refl; upper = λ o m xs. refl; wanted = λ o r. refl })
look (Owner obj owner) = inr (record { is = refl; none = refl; lower = λ y. refl; upper = λ o m xs. refl; wanted = λ o r. refl })

-- What needs what.

and_true : (s : Bool) → ((s && true) || false) ≡ s
and_true true = refl
and_true false = refl

and_false : (s u : Bool) → ((s && false) || u) ≡ u
and_false true u = refl
and_false false u = refl

pub plain_needs : (x y : Update) → Plain x → needs x y ≡ share x y
plain_needs x y p =
    ap (λ b. (share x y && not (b && is_overwrite y)) || under x y) p.is
    ∙ ap (λ b. (share x y && true) || b) (p.lower y)
    ∙ and_true (share x y)

pub range_needs : (o m : ℕ) (xs : List ℕ) (y : Update) → Plain y → needs (Put o m xs true) y ≡ member o (operands y)
range_needs o m xs y p =
    ap (λ b. ((member o (operands y) || false) && not b) || under (Put o m xs true) y) p.is
    ∙ ap (λ b. ((member o (operands y) || false) && true) || b) (p.upper o m xs)
    ∙ and_true (member o (operands y) || false)
    ∙ or_false (member o (operands y))

pub ranges_need : (o m p n : ℕ) (xs ys : List ℕ) → needs (Put o m xs true) (Put p n ys true) ≡ ((o == p) && meet m (length xs) n (length ys))
ranges_need o m p n xs ys = and_false (share (Put o m xs true) (Put p n ys true)) ((o == p) && meet m (length xs) n (length ys))

-- One more is chosen.

or_assoc : (a b c : Bool) → ((a || b) || c) ≡ (a || (b || c))
or_assoc true b c = refl
or_assoc false b c = refl

or_middle : (a b c d : Bool) → ((a || b) || (c || d)) ≡ ((a || c) || (b || d))
or_middle true b c d = refl
or_middle false true true d = refl
or_middle false true false d = refl
or_middle false false c d = refl

any_or : (q p r : ℕ → Bool) → ((o : ℕ) → q o ≡ (p o || r o)) → (xs : List ℕ) → list_any q xs ≡ (list_any p xs || list_any r xs)
any_or q p r h [] = refl
any_or q p r h (x ∷ xs) = ap (λ b. b || list_any q xs) (h x) ∙ ap (λ b. (p x || r x) || b) (any_or q p r h xs) ∙ or_middle (p x) (r x) (list_any p xs) (list_any r xs)

pub others_more : (y : Update) → Plain y → (others new : Others) (ranges : Ranges) → ((o : ℕ) → is_some (at o new) ≡ (member o (operands y) || is_some (at o others)))
    → (x : Update) → is_needed new ranges x ≡ (needs x y || is_needed others ranges x)
others_more y p others new ranges h x = elim (look x) [
  | inl r ↦
      subst (λ z. is_needed new ranges z ≡ (needs z y || is_needed others ranges z)) (sym r.is) (
      ap (λ b. b || list_any (λ q. meet r.place (length r.bytes) q.0 q.1) (at_or [] r.obj ranges)) (h r.obj)
      ∙ or_assoc (member r.obj (operands y)) (is_some (at r.obj others)) (list_any (λ q. meet r.place (length r.bytes) q.0 q.1) (at_or [] r.obj ranges))
      ∙ ap (λ b. b || is_needed others ranges (Put r.obj r.place r.bytes true)) (sym (range_needs r.obj r.place r.bytes y p))
      )
  | inr q ↦
      q.wanted new ranges
      ∙ any_or (λ o. is_on o new ranges) (λ o. member o (operands y)) (λ o. is_on o others ranges) (λ o. ap (λ b. b || is_some (at o ranges)) (h o) ∙ or_assoc (member o (operands y)) (is_some (at o others)) (is_some (at o ranges))) (operands x)
      ∙ ap (λ b. b || list_any (λ o. is_on o others ranges) (operands x)) (sym (plain_needs x y q))
      ∙ ap (λ b. needs x y || b) (sym (q.wanted others ranges))
]

pub ranges_more : (p n : ℕ) (ys : List ℕ) (others : Others) (ranges new : Ranges) → ((o : ℕ) → at o new ≡ cond (o == p) (Some (at_or [] p ranges ++ (n, length ys) ∷ [])) (at o ranges))
    → (x : Update) → is_needed others new x ≡ (needs x (Put p n ys true) || is_needed others ranges x)
ranges_more p n ys others ranges new h x = elim (look x) [
  | inl r ↦
      subst (λ z. is_needed others new z ≡ (needs z (Put p n ys true) || is_needed others ranges z)) (sym r.is) (
      ap (λ z. is_some (at r.obj others) || list_any (λ q. meet r.place (length r.bytes) q.0 q.1) (or_else [] z)) (h r.obj)
      ∙ by_file r.obj r.place (length r.bytes) (r.obj == p) refl
      ∙ ap (λ b. b || is_needed others ranges (Put r.obj r.place r.bytes true)) (sym (ranges_need r.obj r.place p n r.bytes ys))
      )
  | inr q ↦
      q.wanted others new
      ∙ any_or (λ o. is_on o others new) (λ o. member o (p ∷ [])) (λ o. is_on o others ranges) (λ o. ap (λ z. is_some (at o others) || is_some z) (h o) ∙ there (o == p) (is_some (at o others)) (at o ranges)) (operands x)
      ∙ ap (λ b. b || list_any (λ o. is_on o others ranges) (operands x)) (sym (plain_needs x (Put p n ys true) q))
      ∙ ap (λ b. needs x (Put p n ys true) || b) (sym (q.wanted others ranges))
]
  where
    there : (b a : Bool) (z : Option (List (ℕ × ℕ))) → (a || is_some (cond b (Some (at_or [] p ranges ++ (n, length ys) ∷ [])) z)) ≡ ((b || false) || (a || is_some z))
    there true true z = refl
    there true false z = refl
    there false a z = refl

    swap : (a l m : Bool) → (a || (l || (m || false))) ≡ (m || (a || l))
    swap true l true = refl
    swap true l false = refl
    swap false true true = refl
    swap false true false = refl
    swap false false true = refl
    swap false false false = refl

    by_file : (o m k : ℕ) (b : Bool) → (o == p) ≡ b
        → (is_some (at o others) || list_any (λ q. meet m k q.0 q.1) (or_else [] (cond b (Some (at_or [] p ranges ++ (n, length ys) ∷ [])) (at o ranges))))
        ≡ (((o == p) && meet m k n (length ys)) || (is_some (at o others) || list_any (λ q. meet m k q.0 q.1) (at_or [] o ranges)))
    by_file o m k true e =
        ap (λ b. is_some (at o others) || b) (list_any-append (λ q. meet m k q.0 q.1) (at_or [] p ranges) ((n, length ys) ∷ []))
        ∙ swap (is_some (at o others)) (list_any (λ q. meet m k q.0 q.1) (at_or [] p ranges)) (meet m k n (length ys))
        ∙ ap (λ f. meet m k n (length ys) || (is_some (at o others) || list_any (λ q. meet m k q.0 q.1) (at_or [] f ranges))) (sym (eqb-true o p e))
        ∙ ap (λ b. (b && meet m k n (length ys)) || (is_some (at o others) || list_any (λ q. meet m k q.0 q.1) (at_or [] o ranges))) (sym e)
    by_file o m k false e = ap (λ b. (b && meet m k n (length ys)) || (is_some (at o others) || list_any (λ q. meet m k q.0 q.1) (at_or [] o ranges))) (sym e)

-- nothing is chosen
pub nothing_needed : (x : Update) → is_needed [] [] x ≡ false
nothing_needed x = elim (look x) [ inl r ↦ ap (is_needed [] []) r.is | inr p ↦ p.wanted [] [] ∙ none (operands x) ]
  where
    none : (xs : List ℕ) → list_any (λ o. is_on o [] []) xs ≡ false
    none [] = refl
    none (x ∷ xs) = none xs

-- By what the code finds of the new one.

no_range : {r : Range} → ◌≡◌ {A = Option Range} None (Some r) → ⊥
no_range e = cc

pub others_chosen : (y : Update) → range_of y ≡ None → (others new : Others) (ranges : Ranges) → ((o : ℕ) → is_some (at o new) ≡ (member o (operands y) || is_some (at o others)))
    → (x : Update) → is_needed new ranges x ≡ (needs x y || is_needed others ranges x)
others_chosen y none others new ranges h = elim (look y) [
  | inl r ↦ absurd (no_range (sym none ∙ ap range_of r.is))
  | inr p ↦ others_more y p others new ranges h
]

pub range_chosen : (y : Update) (r : Range) → range_of y ≡ Some r → (others : Others) (ranges new : Ranges) → ((o : ℕ) → at o new ≡ cond (o == r.obj) (Some (at_or [] r.obj ranges ++ (r.at, r.len) ∷ [])) (at o ranges))
    → (x : Update) → is_needed others new x ≡ (needs x y || is_needed others ranges x)
range_chosen y r some others ranges new = elim (look y) [
  | inr q ↦ absurd (no_range (sym q.none ∙ some))
  | inl q ↦ go q (unwrapped (sym (ap range_of q.is) ∙ some))
]
  where
    own : IsRange y → Range
    own q = record { obj = q.obj; at = q.place; len = length q.bytes }

    unwrapped : {a b : Range} → ◌≡◌ {A = Option Range} (Some a) (Some b) → a ≡ b
    unwrapped {a} e = ap (or_else a) e

    go : (q : IsRange y) → own q ≡ r → ((o : ℕ) → at o new ≡ cond (o == r.obj) (Some (at_or [] r.obj ranges ++ (r.at, r.len) ∷ [])) (at o ranges))
        → (x : Update) → is_needed others new x ≡ (needs x y || is_needed others ranges x)
    go q same h x =
        subst (λ z. is_needed others new x ≡ (needs x z || is_needed others ranges x)) (sym q.is) (
        ranges_more q.obj q.place q.bytes others ranges new
        (subst (λ (s : Range). (o : ℕ) → at o new ≡ cond (o == s.obj) (Some (at_or [] s.obj ranges ++ (s.at, s.len) ∷ [])) (at o ranges)) (sym same) h) x
        )
