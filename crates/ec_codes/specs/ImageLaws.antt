-- The laws of the codes of images.
use Rattle.std.proofs.Common.{◌≡◌, ℕ, zero, suc, Bool, true, false, cond, not, ◌&&◌, eqb, List, [], ◌∷◌, ◌++◌, map, length, Option, Some, None, refl, sym, ap, ◌∙◌, arith}
use Rattle.std.specs.Prelude.{nat_le}
use Rattle.std.proofs.lemmas.Bool.{eqb-true}
use Rattle.std.specs.Int.{w16, w32, w64}
use Rattle.ec_volume.specs.Entries.{Entries}
use Rattle.ec_volume.specs.declared.image.Image.{Image}
use Rattle.ec_volume.specs.declared.image.Image.TheVariants.{Gone, File, Dir}
use Rattle.ec_codes.specs.Formats.{Format, byte, number, such, then_by, text, list, variant, nothing, empty, tagged}
use Rattle.ec_codes.specs.FormatLaws.{IsFormat, byte-is, number32-is, number64-is, such_is, then_is, text_is, list_is, variant_is, nothing_is, empty-is, choice_is, tagged_is}
use Rattle.ec_codes.specs.Fields.{id, id_but, mode_field, name}
use Rattle.ec_codes.specs.FieldLaws.{id_but_is, mode_field-is, name-is}
use Rattle.ec_codes.specs.Images.{max_file_bytes, max_entries, content, is_after, ids_under, entry_after, entry_spell, entries_field, file_fields, dir_fields, old_file_fields, old_dir_fields, image_tag, is_image_tag, gone, filed, listing, old_filed, old_listing, to_gone, to_file, to_dir, to_old_file, to_old_dir, image_form, old_image_form, image_code, old_image_code}
use Rattle.ec_base.specs.SmallLaws.{same_some}

content-is : IsFormat content
unfolding content
content-is = text_is (such (λ n. nat_le n max_file_bytes) (number w32)) (λ n. omega arith) (such_is (λ n. nat_le n max_file_bytes) (number w32) number32-is)

entry_is : (before : Entries) → IsFormat (entry_after before)
unfolding entry_after
entry_is before = then_is (such (is_after before) name) _ (such_is (is_after before) name name-is) (λ n. id_but_is (ids_under before))

entry_spelled : (before : Entries) (e : List ℕ × ℕ) → (entry_after before).spell e ≡ entry_spell e
unfolding entry_after entry_spell
entry_spelled before e = refl

entries-is : IsFormat entries_field
unfolding entries_field
entries-is = list_is (such (λ n. nat_le n max_entries) byte) entry_spell entry_after (such_is (λ n. nat_le n max_entries) byte byte-is) entry_is entry_spelled

file-is : IsFormat file_fields
unfolding file_fields
file-is = then_is mode_field _ mode_field-is (λ mode. then_is (number w64) _ number64-is (λ stamp. then_is (number w32) _ number32-is (λ owner. content-is)))

dir-is : IsFormat dir_fields
unfolding dir_fields
dir-is = then_is mode_field _ mode_field-is (λ mode. then_is (number w64) _ number64-is (λ stamp. then_is (number w32) _ number32-is (λ owner. entries-is)))

old_file-is : IsFormat old_file_fields
unfolding old_file_fields
old_file-is = then_is mode_field _ mode_field-is (λ mode. then_is (number w64) _ number64-is (λ stamp. content-is))

old_dir-is : IsFormat old_dir_fields
unfolding old_dir_fields
old_dir-is = then_is mode_field _ mode_field-is (λ mode. then_is (number w64) _ number64-is (λ stamp. entries-is))

-- The forms.

abbrev IsTagged : ℕ → Format Image → Type 0
IsTagged t F = (i : Image) → F.fits i ≡ true → image_tag i ≡ t

choose : (t k : ℕ) (F G : Format Image) (b : Bool) → (b ≡ true → t ≡ k) → IsTagged k F → IsTagged t G → IsTagged t (cond b F G)
choose t k F G true e f g i h = f i h ∙ sym (e refl)
choose t k F G false e f g i h = g i h

tagged_or : (t k : ℕ) (F G : Format Image) → IsTagged k F → IsTagged t G → IsTagged t (cond (eqb t k) F G)
tagged_or t k F G f g = choose t k F G (eqb t k) (eqb-true t k) f g

gone_back : (i : Image) (x : Unit {0}) → gone i ≡ Some x → to_gone x ≡ i
gone_back Gone x e = refl
gone_back _ x e = absurd cc

filed_back : (i : Image) (x : ℕ × (ℕ × (ℕ × List ℕ))) → filed i ≡ Some x → to_file x ≡ i
filed_back (File m s w bs) x e = ap to_file (sym (same_some _ x e))
filed_back _ x e = absurd cc

listing_back : (i : Image) (x : ℕ × (ℕ × (ℕ × Entries))) → listing i ≡ Some x → to_dir x ≡ i
listing_back (Dir m s w es) x e = ap to_dir (sym (same_some _ x e))
listing_back _ x e = absurd cc

old_filed_back : (i : Image) (x : ℕ × (ℕ × List ℕ)) → old_filed i ≡ Some x → to_old_file x ≡ i
old_filed_back (File m s zero bs) x e = ap to_old_file (sym (same_some _ x e))
old_filed_back _ x e = absurd cc

old_listing_back : (i : Image) (x : ℕ × (ℕ × Entries)) → old_listing i ≡ Some x → to_old_dir x ≡ i
old_listing_back (Dir m s zero es) x e = ap to_old_dir (sym (same_some _ x e))
old_listing_back _ x e = absurd cc

in_gone : IsTagged 0 (variant gone to_gone empty)
in_gone Gone h = refl
in_gone _ h = absurd cc

in_filed : IsTagged 1 (variant filed to_file file_fields)
in_filed (File m s w bs) h = refl
in_filed _ h = absurd cc

in_listing : IsTagged 2 (variant listing to_dir dir_fields)
in_listing (Dir m s w es) h = refl
in_listing _ h = absurd cc

in_old_filed : IsTagged 1 (variant old_filed to_old_file old_file_fields)
in_old_filed (File m s w bs) h = refl
in_old_filed _ h = absurd cc

in_old_listing : IsTagged 2 (variant old_listing to_old_dir old_dir_fields)
in_old_listing (Dir m s w es) h = refl
in_old_listing _ h = absurd cc

in_nothing : (t : ℕ) → IsTagged t nothing
in_nothing t i h = absurd cc

form_is : (t : ℕ) → IsFormat (image_form t)
unfolding image_form
form_is t =
    choice_is (eqb t 0) (variant gone to_gone empty) _ (variant_is gone to_gone empty empty-is (λ x. refl) gone_back) (
    choice_is (eqb t 1) (variant filed to_file file_fields) _ (variant_is filed to_file file_fields file-is (λ x. refl) filed_back) (
    choice_is (eqb t 2) (variant listing to_dir dir_fields) _ (variant_is listing to_dir dir_fields dir-is (λ x. refl) listing_back) nothing_is))

form_tags : (t : ℕ) → IsTagged t (image_form t)
unfolding image_form
form_tags t =
    tagged_or t 0 (variant gone to_gone empty) _ in_gone (
    tagged_or t 1 (variant filed to_file file_fields) _ in_filed (
    tagged_or t 2 (variant listing to_dir dir_fields) _ in_listing (in_nothing t)))

old_form_is : (t : ℕ) → IsFormat (old_image_form t)
unfolding old_image_form
old_form_is t =
    choice_is (eqb t 0) (variant gone to_gone empty) _ (variant_is gone to_gone empty empty-is (λ x. refl) gone_back) (
    choice_is (eqb t 1) (variant old_filed to_old_file old_file_fields) _ (variant_is old_filed to_old_file old_file_fields old_file-is (λ x. refl) old_filed_back) (
    choice_is (eqb t 2) (variant old_listing to_old_dir old_dir_fields) _ (variant_is old_listing to_old_dir old_dir_fields old_dir-is (λ x. refl) old_listing_back) nothing_is))

old_form_tags : (t : ℕ) → IsTagged t (old_image_form t)
unfolding old_image_form
old_form_tags t =
    tagged_or t 0 (variant gone to_gone empty) _ in_gone (
    tagged_or t 1 (variant old_filed to_old_file old_file_fields) _ in_old_filed (
    tagged_or t 2 (variant old_listing to_old_dir old_dir_fields) _ in_old_listing (in_nothing t)))

pub image-is : IsFormat image_code
unfolding image_code
image-is = tagged_is is_image_tag image_tag image_form form_is form_tags

pub old_image-is : IsFormat old_image_code
unfolding old_image_code
old_image-is = tagged_is is_image_tag image_tag old_image_form old_form_is old_form_tags
