-- Updates of an object's own parts, which have one operand.
use Rattle.std.proofs.Common.{◌≡◌, ℕ, List, [], ◌∷◌, Option, None, Some, Bool, true, false, refl, sym, ap, subst, ◌∙◌}
use Rattle.std.specs.Prelude.{◌==◌, ◌||◌, if◌then◌else◌, unwrap_or}
use Rattle.std.proofs.lemmas.Bool.{eqb-true}
use Rattle.std.specs.Ordering.{nat_cmp}
use Rattle.std.specs.FinMap.{find}
use Rattle.ec_volume.specs.Image.{is_gone}
use Rattle.ec_volume.specs.Update.{operands, member, fits, effect, first_unfit}
use Rattle.ec_volume.specs.Volume.{Images, images, after}
use Rattle.ec_volume.specs.Carry.{renames, instead}
use Rattle.ec_volume.specs.declared.image.Image.{Image}
use Rattle.ec_volume.specs.declared.image.Image.TheVariants.{Gone, File, Dir}
use Rattle.ec_volume.specs.declared.update.Update.{Update}
use Rattle.ec_volume.specs.declared.update.Update.TheVariants as update
use Rattle.ec_volume.proofs.Held.{images_find}

other : (P : Type 0) → true ≡ false → P
other P e = absurd (let t : true ≡ false = e in cc)

-- an object that isn't there has no such update
pub gone_unfit : (u : Update) (o : ℕ) → renames u ≡ false → fits u o Gone ≡ false
gone_unfit (update.Make dir name obj k) o r = other _ r
gone_unfit (update.Drop dir name obj k) o r = other _ r
gone_unfit (update.Move dir from to obj k victim) o r = other _ r
gone_unfit (update.Put obj at bytes inside) o r = refl
gone_unfit (update.Len obj len) o r = refl
gone_unfit (update.Mode obj mode) o r = refl
gone_unfit (update.Stamp obj stamp) o r = refl
gone_unfit (update.Order objs) o r = refl
gone_unfit (update.Shift dir from into to obj k victim up) o r = other _ r
gone_unfit (update.Owner obj owner) o r = refl

-- nor does one go by it
pub stays_alone : (u : Update) (o : ℕ) (i : Image) → renames u ≡ false → is_gone i ≡ false → is_gone (effect u o i) ≡ false
stays_alone u o Gone r e = other _ e
stays_alone (update.Make dir name obj k) o (File m s w bs) r e = other _ r
stays_alone (update.Drop dir name obj k) o (File m s w bs) r e = other _ r
stays_alone (update.Move dir from to obj k victim) o (File m s w bs) r e = other _ r
stays_alone (update.Put obj at bytes inside) o (File m s w bs) r e = refl
stays_alone (update.Len obj len) o (File m s w bs) r e = refl
stays_alone (update.Mode obj mode) o (File m s w bs) r e = refl
stays_alone (update.Stamp obj stamp) o (File m s w bs) r e = refl
stays_alone (update.Order objs) o (File m s w bs) r e = refl
stays_alone (update.Shift dir from into to obj k victim up) o (File m s w bs) r e = other _ r
stays_alone (update.Owner obj owner) o (File m s w bs) r e = refl
stays_alone (update.Make dir name obj k) o (Dir m s w es) r e = other _ r
stays_alone (update.Drop dir name obj k) o (Dir m s w es) r e = other _ r
stays_alone (update.Move dir from to obj k victim) o (Dir m s w es) r e = other _ r
stays_alone (update.Put obj at bytes inside) o (Dir m s w es) r e = refl
stays_alone (update.Len obj len) o (Dir m s w es) r e = refl
stays_alone (update.Mode obj mode) o (Dir m s w es) r e = refl
stays_alone (update.Stamp obj stamp) o (Dir m s w es) r e = refl
stays_alone (update.Order objs) o (Dir m s w es) r e = refl
stays_alone (update.Shift dir from into to obj k victim up) o (Dir m s w es) r e = other _ r
stays_alone (update.Owner obj owner) o (Dir m s w es) r e = refl

pub looked_at : (es : List (ℕ × Image)) (k : ℕ) (i : Image) → find nat_cmp k es ≡ Some i → images es k ≡ i
looked_at es k i e = images_find es k ∙ ap (λ f. unwrap_or f Gone) e

pub absent_at : (es : List (ℕ × Image)) (k : ℕ) → find nat_cmp k es ≡ None → images es k ≡ Gone
absent_at es k e = images_find es k ∙ ap (λ f. unwrap_or f Gone) e

-- whether it fits its one operand decides
pub decides_alone : (u : Update) (v : Images) (o : ℕ) (i : Image) (b : Bool) → operands u ≡ o ∷ [] → v o ≡ i → fits u o i ≡ b → first_unfit u v (operands u) ≡ (if b then None else Some o)
decides_alone u v o i b only is e = ap (first_unfit u v) only ∙ ap (λ j. if fits u o j then None else Some o) is ∙ ap (λ a. if a then None else Some o) e

pub after_alone : (u : Update) (v : Images) (o : ℕ) → operands u ≡ o ∷ [] → (p : ℕ) → instead o (effect u o (v o)) v p ≡ after v (u ∷ []) p
after_alone u v o only p =
    elim (p == o) as (λ b. (p == o) ≡ b → (if b then effect u o (v o) else v p) ≡ (if (b || false) then effect u p (v p) else v p)) [
      | true ↦ λ e. ap (λ k. effect u k (v k)) (sym (eqb-true p o e))
      | false ↦ λ _. refl
    ] refl
    ∙ ap (λ os. if member p os then effect u p (v p) else v p) (sym only)
