-- The list of some images, and the list behind an update.
use Rattle.std.proofs.Common.{◌≡◌, ℕ, List, [], ◌∷◌, Option, None, Some, Bool, true, false, cond, refl, sym, ap, subst, ◌∙◌}
use Rattle.std.specs.Prelude.{◌==◌, ◌&&◌, ◌||◌, if◌then◌else◌, not, T, Result, Ok, Err, OnOk}
use Rattle.std.proofs.lemmas.Bool.{eqb-true}
use Rattle.std.specs.List.{list_all}
use Rattle.std.specs.Ordering.{nat_cmp}
use Rattle.std.specs.Cmp.{nat_cmp_total, unsigned_ties}
use Rattle.std.specs.FinMap.{nat_cmp-IsAntisymmetric, find, is_sorted}
use Rattle.std.specs.FinMap.Entries.{is_sorted-put, is_sorted-where_key, same_entries}
use Rattle.ec_base.specs.SortedLaws.{first, second, both}
use Rattle.ec_base.specs.Tables.{Table, put, without}
use Rattle.ec_volume.specs.Image.{is_gone}
use Rattle.ec_volume.specs.Update.{operands, member, distinct, is_within, is_sound, effect}
use Rattle.ec_volume.specs.Volume.{images, after}
use Rattle.ec_volume.specs.Held.{IsVolume, is_held, with_image, changed_at, changed}
use Rattle.ec_volume.specs.Carry.{instead}
use Rattle.ec_volume.specs.declared.image.Image.{Image}
use Rattle.ec_volume.specs.declared.image.Image.TheVariants.{Gone, File, Dir}
use Rattle.ec_volume.specs.declared.update.Update.{Update}
use Rattle.ec_volume.proofs.Held.{images-put, images-without, all-put, all-where_key}
use Rattle.ec_base.proofs.Bools.{is-true}

-- Rising ids whose images are live.
record Lives (es : Table Image) : Type 0 where
  sorted : T (is_sorted nat_cmp es)
  live : T (list_all (λ e. not (is_gone e.1)) es)

live_image : (i : Image) → T (is_held i) → T (not (is_gone i))
live_image Gone h = h
live_image (File m s w bs) h = tt
live_image (Dir m s w es) h = tt

all_live : (es : Table Image) → T (list_all (λ e. is_held e.1) es) → T (list_all (λ e. not (is_gone e.1)) es)
all_live [] h = tt
all_live (e ∷ es) h = both _ _ (live_image e.1 (first _ _ h)) (all_live es (second _ _ h))

lives : (es : Table Image) → IsVolume es → Lives es
lives es v = record { sorted = v.sorted; live = all_live es v.held }

-- A list goes by its images.

abbrev shown : Image → Option Image
shown Gone = None
shown (File m s w bs) = Some (File m s w bs)
shown (Dir m s w es) = Some (Dir m s w es)

shown_live : (i : Image) → T (not (is_gone i)) → Some i ≡ shown i
shown_live Gone h = absurd h
shown_live (File m s w bs) h = refl
shown_live (Dir m s w es) h = refl

chosen : (b : Bool) (i r : Image) (f : Option Image) → T (not (is_gone i)) → f ≡ shown r → cond b (Some i) f ≡ shown (if b then i else r)
chosen true i r f h e = shown_live i h
chosen false i r f h e = e

find_shown : (es : Table Image) → T (list_all (λ e. not (is_gone e.1)) es) → (k : ℕ) → find nat_cmp k es ≡ shown (images es k)
find_shown [] h k = refl
find_shown (e ∷ es) h k =
    ap (λ b. cond b (Some e.1) (find nat_cmp k es)) (sym (unsigned_ties k e.0))
    ∙ chosen (k == e.0) e.1 (images es k) (find nat_cmp k es) (first _ _ h) (find_shown es (second _ _ h) k)

lists_equal : (es fs : Table Image) → Lives es → Lives fs → ((o : ℕ) → images es o ≡ images fs o) → es ≡ fs
lists_equal es fs a b h =
    same_entries nat_cmp nat_cmp_total nat_cmp-IsAntisymmetric es fs a.sorted b.sorted
    (λ k. find_shown es a.live k ∙ ap shown (h k) ∙ sym (find_shown fs b.live k))

pub volumes_equal : (es fs : Table Image) → IsVolume es → IsVolume fs → ((o : ℕ) → images es o ≡ images fs o) → es ≡ fs
volumes_equal es fs a b h = lists_equal es fs (lives es a) (lives fs b) h

-- The list behind an update.

pub gone_is : (i : Image) → is_gone i ≡ true → i ≡ Gone
gone_is Gone e = refl
gone_is (File m s w bs) e = absurd (let t : false ≡ true = e in cc)
gone_is (Dir m s w es) e = absurd (let t : false ≡ true = e in cc)

images_with : (o : ℕ) (i : Image) (es : Table Image) (p : ℕ) → images (with_image o i es) p ≡ instead o i (images es) p
images_with o i es p =
    elim (is_gone i) as (λ b. is_gone i ≡ b → images (if b then without o es else put o i es) p ≡ (if p == o then i else images es p)) [
      | true ↦ λ e. images-without o es p ∙ ap (λ x. if p == o then x else images es p) (sym (gone_is i e))
      | false ↦ λ _. images-put o i es p
    ] refl

lives_with : (o : ℕ) (i : Image) (es : Table Image) → Lives es → Lives (with_image o i es)
lives_with o i es l =
    elim (is_gone i) as (λ b. is_gone i ≡ b → Lives (if b then without o es else put o i es)) [
      | true ↦ λ _. record { sorted = is_sorted-where_key nat_cmp _ es l.sorted; live = all-where_key (λ e. not (is_gone e.1)) _ es l.live }
      | false ↦ λ e. record {
        sorted = is_sorted-put nat_cmp nat_cmp_total o i es l.sorted;
        live = all-put (λ e. not (is_gone e.1)) o i es (λ _. subst (λ b. T (not b)) (sym e) tt) l.live;
      }
    ] refl

lives_changed : (u : Update) (os : List ℕ) (es : Table Image) → Lives es → Lives (changed_at u os es)
lives_changed u [] es l = l
lives_changed u (o ∷ os) es l = lives_changed u os (with_image o (effect u o (images es o)) es) (lives_with o (effect u o (images es o)) es l)

apart : (a b : Bool) → (not a && b) ≡ true → (a ≡ false) × (b ≡ true)
apart false b e = (refl, e)
apart true b e = absurd (let t : false ≡ true = e in cc)

images_changed : (u : Update) (os : List ℕ) (es : Table Image) (p : ℕ) → distinct os ≡ true → images (changed_at u os es) p ≡ (if member p os then effect u p (images es p) else images es p)
images_changed u [] es p d = refl
images_changed u (o ∷ os) es p d =
    let new = effect u o (images es o) in
    let next = with_image o new es in
    let parts = apart (member o os) (distinct os) d in
    images_changed u os next p parts.1
    ∙ elim (p == o) as (λ a. (p == o) ≡ a → (if member p os then effect u p (images next p) else images next p) ≡ (if (a || member p os) then effect u p (images es p) else images es p)) [
      | true ↦ λ e.
          let same : p ≡ o = eqb-true p o e in
          ap (λ b. if b then effect u p (images next p) else images next p) (ap (λ k. member k os) same ∙ parts.0)
          ∙ images_with o new es p ∙ ap (λ b. if b then new else images es p) e ∙ ap (λ k. effect u k (images es k)) (sym same)
      | false ↦ λ e. ap (λ i. if member p os then effect u p i else i) (images_with o new es p ∙ ap (λ b. if b then new else images es p) e)
    ] refl

pub changed_images : (u : Update) (es : Table Image) → T (is_sound u) → (o : ℕ) → images (changed u es) o ≡ after (images es) (u ∷ []) o
changed_images u es s o = images_changed u (operands u) es o (is-true _ (first (distinct (operands u)) (is_within u) s))

pub is_changed : (u : Update) (es new : Table Image) → T (is_sound u) → IsVolume es → IsVolume new → ((o : ℕ) → images new o ≡ after (images es) (u ∷ []) o) → new ≡ changed u es
is_changed u es new s v w h = lists_equal new (changed u es) (lives new w) (lives_changed u (operands u) es (lives es v)) (λ o. h o ∙ sym (changed_images u es s o))
