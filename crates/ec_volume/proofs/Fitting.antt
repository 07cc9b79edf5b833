-- Which updates fit, by their operands and in lists.
use Rattle.std.proofs.Common.{◌≡◌, ◌↔◌, ℕ, List, [], ◌∷◌, ◌++◌, Option, None, Some, true, false, cond, refl, sym, ap, subst, ◌∙◌}
use Rattle.std.specs.Prelude.{◌==◌, ◌&&◌, ◌||◌, if◌then◌else◌, not, T, is_some, unwrap_or}
use Rattle.std.proofs.lemmas.Bool.{eqb-true, eq-eqb}
use Rattle.ec_base.specs.SortedLaws.{first, second, both}
use Rattle.ec_volume.specs.Update.{operands, has_operand, member, fits, first_unfit}
use Rattle.ec_volume.specs.Volume.{Images, image_next, image_after, after, fits_in_turn, Fits}
use Rattle.ec_volume.specs.declared.image.Image.{Image}
use Rattle.ec_volume.specs.declared.update.Update.{Update}
use Rattle.ec_base.proofs.Bools.{and-assoc, holds-true}

some_is_none : (P : Type 0) (o : ℕ) → Some o ≡ None → P
some_is_none P o e = absurd (let t : true ≡ false = ap is_some e in cc)

same : (o p : ℕ) → Some o ≡ Some p → o ≡ p
same o p e = ap (λ x. unwrap_or x o) e

each_fits : (u : Update) (v : Images) (os : List ℕ) → first_unfit u v os ≡ None → (o : ℕ) → T (member o os) → T (fits u o (v o))
each_fits u v [] e o m = absurd m
each_fits u v (p ∷ os) e o m =
    elim (fits u p (v p)) as (λ b. fits u p (v p) ≡ b → (if b then first_unfit u v os else Some p) ≡ None → T (fits u o (v o))) [
      | true ↦ λ t f. elim (o == p) as (λ a. (o == p) ≡ a → T (a || member o os) → T (fits u o (v o))) [
        | true ↦ λ s _. subst (λ k. T (fits u k (v k))) (sym (eqb-true o p s)) (holds-true _ t)
        | false ↦ λ _ k. each_fits u v os f o k
      ] refl m
      | false ↦ λ t f. some_is_none _ p f
    ] refl e

none_unfit : (u : Update) (v : Images) (os : List ℕ) → ((o : ℕ) → T (member o os) → T (fits u o (v o))) → first_unfit u v os ≡ None
none_unfit u v [] all = refl
none_unfit u v (o ∷ os) all =
    elim (fits u o (v o)) as (λ b. T b → (if b then first_unfit u v os else Some o) ≡ None) [
      | true ↦ λ _. none_unfit u v os (λ p m. all p (elim (p == o) as (λ a. T (a || member p os)) [ true ↦ tt | false ↦ m ]))
      | false ↦ λ h. absurd h
    ] (all o (subst (λ a. T (a || member o os)) (sym (eq-eqb o o refl)) tt))

pub some_is_unfit : (u : Update) (v : Images) (os : List ℕ) (o : ℕ) → first_unfit u v os ≡ Some o → T (member o os) × (fits u o (v o) ≡ false)
some_is_unfit u v [] o e = some_is_none _ o (sym e)
some_is_unfit u v (p ∷ os) o e =
    elim (fits u p (v p)) as (λ b. fits u p (v p) ≡ b → (if b then first_unfit u v os else Some p) ≡ Some o → T ((o == p) || member o os) × (fits u o (v o) ≡ false)) [
      | true ↦ λ _ f. let rest = some_is_unfit u v os o f in (elim (o == p) as (λ a. T (a || member o os)) [ true ↦ tt | false ↦ rest.0 ], rest.1)
      | false ↦ λ t f. let is = same p o f in
          (subst (λ a. T (a || member o os)) (sym (eq-eqb o p (sym is))) tt, subst (λ k. fits u k (v k) ≡ false) is t)
    ] refl e

pub none_is_fit : (v : Images) (u : Update) → (first_unfit u v (operands u) ≡ None) ↔ Fits v (u ∷ [])
none_is_fit v u = (
  λ e o. elim (has_operand o u) as (λ b. (T b → T (fits u o (v o))) → T ((not b || fits u o (v o)) && true)) [
    | true ↦ λ f. both (fits u o (v o)) true (f tt) tt
    | false ↦ λ f. tt
  ] (each_fits u v (operands u) e o),
  λ f. none_unfit u v (operands u) (λ o m. elim (has_operand o u) as (λ b. T b → T ((not b || fits u o (v o)) && true) → T (fits u o (v o))) [
    | true ↦ λ _ t. first (fits u o (v o)) true t
    | false ↦ λ k _. absurd k
  ] m (f o)),
)

-- Lists.

pub image_joined : (o : ℕ) (i : Image) (us ws : List Update) → image_after o i (us ++ ws) ≡ image_after o (image_after o i us) ws
image_joined o i [] ws = refl
image_joined o i (u ∷ us) ws = image_joined o (image_next o i u) us ws

pub joined_after : (v : Images) (us ws : List Update) (o : ℕ) → after v (us ++ ws) o ≡ after (after v us) ws o
joined_after v us ws o = image_joined o (v o) us ws

pub turns_joined : (o : ℕ) (i : Image) (us ws : List Update) → fits_in_turn o i (us ++ ws) ≡ (fits_in_turn o i us && fits_in_turn o (image_after o i us) ws)
turns_joined o i [] ws = refl
turns_joined o i (u ∷ us) ws =
    ap (λ b. (not (has_operand o u) || fits u o i) && b) (turns_joined o (image_next o i u) us ws)
    ∙ and-assoc (not (has_operand o u) || fits u o i) (fits_in_turn o (image_next o i u) us) (fits_in_turn o (image_after o (image_next o i u) us) ws)

pub joined_fit : (v : Images) (us ws : List Update) → Fits v (us ++ ws) ↔ (Fits v us × Fits (after v us) ws)
joined_fit v us ws = (
  λ f. (λ o. first _ _ (subst T (turns_joined o (v o) us ws) (f o)), λ o. second _ _ (subst T (turns_joined o (v o) us ws) (f o))),
  λ p o. subst T (sym (turns_joined o (v o) us ws)) (both _ _ (p.0 o) (p.1 o)),
)

pub first_fits : (v : Images) (u : Update) (us : List Update) → Fits v (u ∷ us) ↔ ((first_unfit u v (operands u) ≡ None) × Fits (after v (u ∷ [])) us)
first_fits v u us =
    let parts = joined_fit v (u ∷ []) us in
    let here = none_is_fit v u in
    (λ f. (here.1 ((parts.0 f).0), (parts.0 f).1), λ p. parts.1 (here.0 p.0, p.1))

pub last_fits : (v : Images) (u : Update) (us : List Update) → Fits v (us ++ u ∷ []) ↔ (Fits v us × (first_unfit u (after v us) (operands u) ≡ None))
last_fits v u us =
    let parts = joined_fit v us (u ∷ []) in
    let here = none_is_fit (after v us) u in
    (λ f. ((parts.0 f).0, here.1 ((parts.0 f).1)), λ p. parts.1 (p.0, here.0 p.1))
