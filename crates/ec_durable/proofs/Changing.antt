-- The list of a volume behind a sound update that fits: within its limits, and live only where it was before or made.
use Rattle.std.proofs.Common.{◌≡◌, ◌==◌, ℕ, Bool, true, false, not, ◌&&◌, ◌||◌, if◌then◌else◌, List, [], ◌∷◌, Some, T, refl, sym, ap, subst, ◌∙◌, inl, inr}
use Rattle.std.proofs.lemmas.Bool.{cases_Bool, eq-eqb, ne_eqb}
use Rattle.ec_base.specs.SortedLaws.{first, second}
use Rattle.ec_base.specs.Tables.{Table, put, without}
use Rattle.ec_volume.specs.Image.{is_gone}
use Rattle.ec_volume.specs.Update.{operands, has_operand, member, distinct, is_within, is_sound, fits, effect}
use Rattle.ec_volume.specs.Volume.{images, Fits}
use Rattle.ec_volume.specs.Held.{IsVolume, is_held, with_image, changed_at, changed}
use Rattle.ec_volume.specs.declared.image.Image.{Image}
use Rattle.ec_volume.specs.declared.image.Image.TheVariants.{Gone}
use Rattle.ec_volume.specs.declared.update.Update.{Update}
use Rattle.ec_volume.proofs.Held.{IsVolume-put, IsVolume-without, images-put, images-without, image_held}
use Rattle.ec_volume.proofs.Changed.{changed_images}
use Rattle.ec_durable.specs.Durable.{made}
use Rattle.ec_durable.proofs.Effects.{within_effect, gone_stays}
use Rattle.ec_base.proofs.Bools.{clash, or-right as later, is-true as is_true, holds-true as told}
use Rattle.ec_volume.proofs.ImageLemmas.{IsWithin}

volume_with : (o : ℕ) (i : Image) (es : Table Image) → T (is_gone i || is_held i) → IsVolume es → IsVolume (with_image o i es)
volume_with o i es h v =
    elim (is_gone i) as (λ b. T (b || is_held i) → IsVolume (if b then without o es else put o i es)) [
      | true ↦ λ k. IsVolume-without o es v
      | false ↦ λ k. IsVolume-put o i es (is_true _ k) v
    ] h

images_beside : (o : ℕ) (i : Image) (es : Table Image) (p : ℕ) → (p == o) ≡ false → images (with_image o i es) p ≡ images es p
images_beside o i es p n =
    elim (is_gone i) as (λ b. images (if b then without o es else put o i es) p ≡ images es p) [
      | true ↦ images-without o es p ∙ ap (λ b. if b then Gone else images es p) n
      | false ↦ images-put o i es p ∙ ap (λ b. if b then i else images es p) n
    ]

volume_changed_at : (u : Update) (os : List ℕ) (es : Table Image) → T (distinct os) → IsVolume es
    → ((o : ℕ) → T (member o os) → T (is_gone (effect u o (images es o)) || is_held (effect u o (images es o)))) → IsVolume (changed_at u os es)
volume_changed_at u [] es d v h = v
volume_changed_at u (o ∷ os) es d v h =
    let new = effect u o (images es o) in
    let next = with_image o new es in
    volume_changed_at u os next (second (not (member o os)) (distinct os) d) (volume_with o new es (h o (subst (λ b. T (b || member o os)) (sym (eq-eqb o o refl)) tt)) v)
    (λ p m.
    let apart : (p == o) ≡ false = ne_eqb p o (λ e. clash (member o os) (first (not (member o os)) (distinct os) d) (subst (λ k. T (member k os)) e m)) in
    subst (λ i. T (is_gone (effect u p i) || is_held (effect u p i))) (sym (images_beside o new es p apart)) (h p (later (p == o) (member p os) m)))

within_image : (es : Table Image) → IsVolume es → (o : ℕ) → T (is_gone (images es o) || is_held (images es o))
within_image es v o =
    elim (cases_Bool (is_gone (images es o))) [
      | inl g ↦ subst (λ b. T (b || is_held (images es o))) (sym g) tt
      | inr l ↦ later _ _ (told _ (image_held es o v l))
    ]

fits_here : (a b : Bool) → a ≡ true → T ((not a || b) && true) → T b
fits_here true b e h = first b true h
fits_here false b e h = absurd (let t : false ≡ true = e in cc)

within_changed : (u : Update) (es : Table Image) → T (is_sound u) → Fits (images es) (u ∷ []) → IsVolume es → (o : ℕ) → T (has_operand o u) → IsWithin (effect u o (images es o))
within_changed u es s f v o m =
    within_effect u o (images es o) s (fits_here (has_operand o u) (fits u o (images es o)) (is_true _ m) (f o)) (within_image es v o)

pub volume_changed : (u : Update) (es : Table Image) → T (is_sound u) → Fits (images es) (u ∷ []) → IsVolume es → IsVolume (changed u es)
volume_changed u es s f v = volume_changed_at u (operands u) es (first (distinct (operands u)) (is_within u) s) v (within_changed u es s f v)

pub stays_gone : (u : Update) (es : Table Image) (o : ℕ) → T (is_sound u) → (made u ≡ Some o → ⊥) → is_gone (images es o) ≡ true → is_gone (images (changed u es) o) ≡ true
stays_gone u es o s n g = ap is_gone (changed_images u es s o) ∙ gone_stays u o (images es o) n g
