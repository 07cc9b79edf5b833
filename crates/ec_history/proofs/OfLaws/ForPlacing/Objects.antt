-- Lists of updates, object by object.
use Rattle.std.proofs.Common.{◌≡◌, refl, sym, ap, subst, ◌∙◌, inl, inr, ℕ, T, Bool, true, false, not, ◌==◌, ◌&&◌, ◌||◌, cond, List, [], ◌∷◌, ◌++◌, Option, Some, None}
use Rattle.std.proofs.lemmas.Bool.{cases_Bool, and_parts, and_from, or_parts, or_left, or_right, eqb-true, true≢false}
use Rattle.std.proofs.lemmas.List.Elements.{filter-append}
use Rattle.std.specs.List.{filter, list_all, list_any}
use Rattle.ec_volume.specs.Update.{operands, has_operand, member, fits, effect, first_unfit}
use Rattle.ec_volume.specs.Volume.{Images, image_next, image_after, after, fits_in_turn, Fits}
use Rattle.ec_volume.specs.declared.image.Image.{Image}
use Rattle.ec_volume.specs.declared.update.Update.{Update}
use Rattle.ec_order.specs.Order.{share}
use Rattle.ec_base.proofs.Bools.{on, is-true}
use Rattle.ec_volume.proofs.Fitting.{turns_joined}

-- One more update, at an operand and elsewhere.
module _ (o : ℕ) (i : Image) (u : Update) (us : List Update) where
  pub fits-yes : has_operand o u ≡ true → fits_in_turn o i (u ∷ us) ≡ (fits u o i && fits_in_turn o (effect u o i) us)
  fits-yes e = ap (λ b. (not b || fits u o i) && fits_in_turn o (cond b (effect u o i) i) us) e

  pub fits-no : has_operand o u ≡ false → fits_in_turn o i (u ∷ us) ≡ fits_in_turn o i us
  fits-no e = ap (λ b. (not b || fits u o i) && fits_in_turn o (cond b (effect u o i) i) us) e

  pub after-yes : has_operand o u ≡ true → image_after o i (u ∷ us) ≡ image_after o (effect u o i) us
  after-yes e = ap (λ b. image_after o (cond b (effect u o i) i) us) e

  pub after-no : has_operand o u ≡ false → image_after o i (u ∷ us) ≡ image_after o i us
  after-no e = ap (λ b. image_after o (cond b (effect u o i) i) us) e

pub fits-next : (base : Images) (us : List Update) (u : Update) → Fits base us → ((o : ℕ) → T (not (has_operand o u) || fits u o (after base us o))) → Fits base (us ++ u ∷ [])
fits-next base us u f g o =
    on (turns_joined o (base o) us (u ∷ []) ∙ and_from (fits_in_turn o (base o) us) (fits_in_turn o (after base us o) (u ∷ [])) (is-true _ (f o))
    (and_from (not (has_operand o u) || fits u o (after base us o)) true (is-true _ (g o)) refl))

-- The image of an object depends only on the updates that have it as an operand.
pub projection : (o : ℕ) (i : Image) (us : List Update) → image_after o i (filter (has_operand o) us) ≡ image_after o i us
projection o i [] = refl
projection o i (u ∷ us) = elim (cases_Bool (has_operand o u)) [
  | inl e ↦ ap (λ b. image_after o i (cond b (u ∷ filter (has_operand o) us) (filter (has_operand o) us))) e ∙ projection o (image_next o i u) us
  | inr e ↦ ap (λ b. image_after o i (cond b (u ∷ filter (has_operand o) us) (filter (has_operand o) us))) e ∙ projection o i us ∙ sym (after-no o i u us e)
]

-- So does whether a list fits there.
pub projection-fits : (o : ℕ) (i : Image) (us : List Update) → fits_in_turn o i (filter (has_operand o) us) ≡ fits_in_turn o i us
projection-fits o i [] = refl
projection-fits o i (u ∷ us) = elim (cases_Bool (has_operand o u)) [
  | inl e ↦
      ap (λ b. fits_in_turn o i (cond b (u ∷ filter (has_operand o) us) (filter (has_operand o) us))) e
      ∙ ap (λ b. (not (has_operand o u) || fits u o i) && b) (projection-fits o (image_next o i u) us)
  | inr e ↦
      ap (λ b. fits_in_turn o i (cond b (u ∷ filter (has_operand o) us) (filter (has_operand o) us))) e
      ∙ projection-fits o i us ∙ sym (fits-no o i u us e)
]

filter-none : (o : ℕ) (us : List Update) → list_any (has_operand o) us ≡ false → filter (has_operand o) us ≡ []
filter-none o [] e = refl
filter-none o (u ∷ us) e =
    let k = or_parts (has_operand o u) (list_any (has_operand o) us) e in
    ap (λ b. cond b (u ∷ filter (has_operand o) us) (filter (has_operand o) us)) k.0 ∙ filter-none o us k.1

pub stays : (o : ℕ) (i : Image) (us : List Update) → list_any (has_operand o) us ≡ false → image_after o i us ≡ i
stays o i us e = sym (projection o i us) ∙ ap (image_after o i) (filter-none o us e)

pub fits-elsewhere : (o : ℕ) (i : Image) (us : List Update) → list_any (has_operand o) us ≡ false → T (fits_in_turn o i us)
fits-elsewhere o i us e = on (sym (projection-fits o i us) ∙ ap (fits_in_turn o i) (filter-none o us e))

-- It is enough to try the operands.
member-all : (p : ℕ → Bool) (os : List ℕ) (o : ℕ) → list_all p os ≡ true → member o os ≡ true → p o ≡ true
member-all p [] o h k = absurd (true≢false (sym k))
member-all p (x ∷ os) o h k =
    let parts = and_parts (p x) (list_all p os) h in
    elim (cases_Bool (o == x)) [
      | inl e ↦ ap p (eqb-true o x e) ∙ parts.0
      | inr e ↦ member-all p os o parts.1 (ap (λ b. b || member o os) (sym e) ∙ k)
    ]

tried : (p : ℕ → Bool) (us : List Update) (o : ℕ) → list_all (λ u. list_all p (operands u)) us ≡ true → list_any (has_operand o) us ≡ true → p o ≡ true
tried p [] o h k = absurd (true≢false (sym k))
tried p (u ∷ us) o h k =
    let parts = and_parts (list_all p (operands u)) (list_all (λ u. list_all p (operands u)) us) h in
    elim (cases_Bool (has_operand o u)) [
      | inl e ↦ member-all p (operands u) o parts.0 e
      | inr e ↦ tried p us o parts.1 (ap (λ b. b || list_any (has_operand o) us) (sym e) ∙ k)
    ]

pub fits-tried : (base : Images) (us : List Update) → T (list_all (λ u. list_all (λ o. fits_in_turn o (base o) us) (operands u)) us) → Fits base us
fits-tried base us h o = elim (cases_Bool (list_any (has_operand o) us)) [
  | inl e ↦ on (tried (λ p. fits_in_turn p (base p) us) us o (is-true _ h) e)
  | inr e ↦ fits-elsewhere o (base o) us e
]

-- an update of which no operand is unfit
fits-listed : (u : Update) (v : Images) (os : List ℕ) → first_unfit u v os ≡ None → list_all (λ o. fits u o (v o)) os ≡ true
fits-listed u v [] e = refl
fits-listed u v (o ∷ os) e = elim (cases_Bool (fits u o (v o))) [
  | inl f ↦ and_from (fits u o (v o)) (list_all (λ o. fits u o (v o)) os) f (fits-listed u v os (sym (ap (λ b. cond b (first_unfit u v os) (Some o)) f) ∙ e))
  | inr f ↦ absurd (none (sym (ap (λ b. cond b (first_unfit u v os) (Some o)) f) ∙ e))
]
  where
    none : ◌≡◌ {A = Option ℕ} (Some o) None → ⊥
    none e = cc

pub fits-operands : (v : Images) (u : Update) → first_unfit u v (operands u) ≡ None → (o : ℕ) → T (not (has_operand o u) || fits u o (v o))
fits-operands v u e o = go (has_operand o u) (member-all (λ p. fits u p (v p)) (operands u) o (fits-listed u v (operands u) e))
  where
    go : (b : Bool) → (b ≡ true → fits u o (v o) ≡ true) → T (not b || fits u o (v o))
    go true h = on (h refl)
    go false h = tt

-- Lists with equal projections.
module _ (base : Images) (us ws : List Update) (same : (o : ℕ) → filter (has_operand o) us ≡ filter (has_operand o) ws) where
  after-at : (o : ℕ) → after base us o ≡ after base ws o
  after-at o = sym (projection o (base o) us) ∙ ap (image_after o (base o)) (same o) ∙ projection o (base o) ws

  pub after-same : after base us ≡ after base ws
  after-same = λ t o. after-at o t

  pub fits-same : Fits base us → Fits base ws
  fits-same f o = subst T (sym (projection-fits o (base o) us) ∙ ap (fits_in_turn o (base o)) (same o) ∙ projection-fits o (base o) ws) (f o)

-- Neighbours without a common operand.
pub common : (o : ℕ) (xs ys : List ℕ) → member o xs ≡ true → member o ys ≡ true → list_any (λ p. member p ys) xs ≡ true
common o [] ys h k = absurd (true≢false (sym h))
common o (x ∷ xs) ys h k = elim (cases_Bool (o == x)) [
  | inl e ↦ or_left (member x ys) (list_any (λ p. member p ys) xs) (ap (λ y. member y ys) (sym (eqb-true o x e)) ∙ k)
  | inr e ↦ or_right (member x ys) (list_any (λ p. member p ys) xs) (common o xs ys (ap (λ b. b || member o xs) (sym e) ∙ h) k)
]

module _ (us ws : List Update) (a b : Update) (apart : share a b ≡ false) where
  pub strangers : (o : ℕ) → filter (has_operand o) (us ++ a ∷ b ∷ ws) ≡ filter (has_operand o) (us ++ b ∷ a ∷ ws)
  strangers o =
      filter-append (has_operand o) us (a ∷ b ∷ ws)
      ∙ ap (λ x. filter (has_operand o) us ++ x) (go (has_operand o a) (has_operand o b) (λ h k. true≢false (sym (common o (operands a) (operands b) h k) ∙ apart)))
      ∙ sym (filter-append (has_operand o) us (b ∷ a ∷ ws))
    where
      go : (x y : Bool) → (x ≡ true → y ≡ true → ⊥)
          → cond x (a ∷ cond y (b ∷ filter (has_operand o) ws) (filter (has_operand o) ws)) (cond y (b ∷ filter (has_operand o) ws) (filter (has_operand o) ws))
          ≡ cond y (b ∷ cond x (a ∷ filter (has_operand o) ws) (filter (has_operand o) ws)) (cond x (a ∷ filter (has_operand o) ws) (filter (has_operand o) ws))
      go true true n = absurd (n refl refl)
      go true false n = refl
      go false true n = refl
      go false false n = refl

pub strangers-after : (base : Images) (us ws : List Update) (a b : Update) → share a b ≡ false → after base (us ++ a ∷ b ∷ ws) ≡ after base (us ++ b ∷ a ∷ ws)
strangers-after base us ws a b e = after-same base (us ++ a ∷ b ∷ ws) (us ++ b ∷ a ∷ ws) (strangers us ws a b e)

pub strangers-fit : (base : Images) (us ws : List Update) (a b : Update) → share a b ≡ false → Fits base (us ++ a ∷ b ∷ ws) → Fits base (us ++ b ∷ a ∷ ws)
strangers-fit base us ws a b e = fits-same base (us ++ a ∷ b ∷ ws) (us ++ b ∷ a ∷ ws) (strangers us ws a b e)
