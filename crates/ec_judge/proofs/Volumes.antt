-- What is kept as a volume: one more update, and what a loss leaves.
use Rattle.std.proofs.Common.{◌≡◌, refl, sym, ap, subst, ◌∙◌, arith, ℕ, T, Bool, true, false, not, ◌==◌, ◌||◌, cond, List, [], ◌∷◌, ◌++◌, Option, Some, None}
use Rattle.std.proofs.lemmas.Bool.{and_parts}
use Rattle.std.proofs.lemmas.Bool.Decides.{nat_tests}
use Rattle.ec_volume.specs.Update.{operands, has_operand, member, fits, first_unfit}
use Rattle.ec_volume.specs.Volume.{Images, image_after, after, fits_in_turn, Fits}
use Rattle.ec_volume.specs.declared.update.Update.{Update}
use Rattle.ec_history.proofs.OfLaws.ForPlacing.Objects.{fits-next, fits-operands}
use Rattle.ec_base.proofs.Bools.{on as holds, is-true}
use Rattle.ec_volume.proofs.Fitting.{image_joined as after-append, turns_joined as fits-append}

-- An update that fits has no operand at which it doesn't.

pub first-none : (u : Update) (v : Images) (os : List ℕ) → ((o : ℕ) → T (member o os) → T (fits u o (v o))) → first_unfit u v os ≡ None
first-none u v [] all = refl
first-none u v (o ∷ os) all =
    elim (fits u o (v o)) as (λ b. T b → cond b (first_unfit u v os) (Some o) ≡ None) [ true ↦ λ h. first-none u v os (λ p m. all p (more p m)) | false ↦ λ h. absurd h ] (all o (own o))
  where
    more : (p : ℕ) → T (member p os) → T (member p (o ∷ os))
    more p m = or_in (p == o) m
      where
        or_in : (b : Bool) → T (member p os) → T (b || member p os)
        or_in true m = tt
        or_in false m = m

    own : (p : ℕ) → T (member p (p ∷ os))
    own p = holds (ap (λ b. b || member p os) (same p))
      where
        same : (m : ℕ) → (m == m) ≡ true
        same m = grind (arith, nat_tests)

-- where an update behind others fits, it fits what they leave
pub fits-last : (base : Images) (us ws : List Update) (u : Update) → Fits base (us ++ u ∷ ws) → (o : ℕ) → T (not (has_operand o u) || fits u o (after base us o))
fits-last base us ws u f o =
    let all = and_parts (fits_in_turn o (base o) us) (fits_in_turn o (after base us o) (u ∷ ws)) (sym (fits-append o (base o) us (u ∷ ws)) ∙ is-true _ (f o)) in
    holds (and_parts (not (has_operand o u) || fits u o (after base us o)) _ all.1).0

pub or-out : (a b : Bool) → T (not a || b) → T a → T b
or-out true b t a = t
or-out false b t a = absurd a

pub first-fits : (v : Images) (u : Update) → ((o : ℕ) → T (not (has_operand o u) || fits u o (v o))) → first_unfit u v (operands u) ≡ None
first-fits v u f = first-none u v (operands u) (λ o m. or-out (has_operand o u) (fits u o (v o)) (f o) m)

pub none-some : (x : Option ℕ) (o : ℕ) → x ≡ None → x ≡ Some o → ⊥
none-some x o a b = not (sym a ∙ b)
  where
    not : ◌≡◌ {A = Option ℕ} None (Some o) → ⊥
    not e = cc

pub unfit-not : (base : Images) (us ws : List Update) (u : Update) (v : Images) (o : ℕ) → ((p : ℕ) → v p ≡ after base us p) → first_unfit u v (operands u) ≡ Some o → ¬ (Fits base (us ++ u ∷ ws))
unfit-not base us ws u v o same e f =
    none-some (first_unfit u v (operands u)) o (first-fits v u (λ p. subst (λ i. T (not (has_operand p u) || fits u p i)) (sym (same p)) (fits-last base us ws u f p))) e

pub fits-more : (base : Images) (us : List Update) (u : Update) (v : Images) → ((p : ℕ) → v p ≡ after base us p) → Fits base us → first_unfit u v (operands u) ≡ None → Fits base (us ++ u ∷ [])
fits-more base us u v same f e = fits-next base us u f (λ o. subst (λ i. T (not (has_operand o u) || fits u o i)) (same o) (fits-operands v u e o))

pub after-more : (base : Images) (us : List Update) (u : Update) (v w : Images) → ((p : ℕ) → v p ≡ after base us p) → ((p : ℕ) → w p ≡ after v (u ∷ []) p) → (p : ℕ) → w p ≡ after base (us ++ u ∷ []) p
after-more base us u v w same step p = step p ∙ ap (λ i. image_after p i (u ∷ [])) (same p) ∙ sym (after-append p (base p) us (u ∷ []))
