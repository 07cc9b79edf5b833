-- Which images have a code: the sound ones, with fields in the ranges of their types and names that rise.
use Rattle.std.proofs.Common.{◌≡◌, ℕ, zero, suc, ◌-◌, Bool, true, false, not, ◌&&◌, ◌||◌, List, [], ◌∷◌, ◌++◌, map, length, Option, Some, None, Result, Ok, Err, refl, sym, ap, subst, ◌∙◌, append_assoc, arith}
use Rattle.std.specs.Prelude.{IfOk, nat_le, T, slice_get}
use Rattle.std.specs.List.{list_all, list_any}
use Rattle.std.specs.Int.{w16, w32, w64}
use Rattle.std.specs.Ordering.{nat_cmp, is_lt}
use Rattle.std.specs.declared.cmp.Ordering.TheVariants.{Less}
use Rattle.std.specs.Cmp.{IsTotalOrder}
use Rattle.std.specs.FinMap.Entries.{is_sorted, below_all}
use Rattle.std.proofs.lemmas.Cmp.{nat_list_cmp_total}
use Rattle.std.proofs.lemmas.Bool.{and_parts, and_from}
use Rattle.std.proofs.lemmas.List.{map_push, append-nil}
use Rattle.ec_volume.specs.Entries.{Entries, by_bytes}
use Rattle.ec_volume.specs.Held.{is_held}
use Rattle.ec_volume.specs.Image.{is_gone, entries_of}
use Rattle.ec_volume.specs.Update.{member, distinct}
use Rattle.ec_volume.specs.declared.image.Image.{Image}
use Rattle.ec_volume.specs.declared.image.Image.TheVariants.{Gone, File, Dir}
use Rattle.ec_codes.specs.declared.fault.CodeFault.{CodeFault}
use Rattle.ec_codes.specs.Formats.{Format, byte, number, such, rows_fit}
use Rattle.ec_codes.specs.Spelling.{Spells}
use Rattle.ec_codes.specs.Fields.{id, id_but, mode_field, name}
use Rattle.ec_codes.specs.SoundLaws.{are_fresh, fresh_is}
use Rattle.ec_codes.specs.Images.{max_file_bytes, max_entries, content, last_entry, is_behind, is_after, ids_under, entry_after, entry_spell, entries_field, file_fields, dir_fields, old_file_fields, old_dir_fields, image_form, old_image_form, image_code, old_image_code}
use Rattle.ec_codes.specs.SoundImages.{is_sound_image}
use Rattle.ec_base.specs.SortedLaws.{less, second}
use Rattle.ec_base.specs.SmallLaws.{holds}

-- The last one of the entries.

last_more : (e : List ℕ × ℕ) (es : Entries) → slice_get es (length es - 1) ≡ last_entry es → slice_get (e ∷ es) (length (e ∷ es) - 1) ≡ last_entry (e ∷ es)
last_more e [] h = refl
last_more e (f ∷ es) h =
    let k : length (e ∷ f ∷ es) - 1 ≡ suc (length (f ∷ es) - 1) = omega arith in
    ap (slice_get (e ∷ f ∷ es)) k ∙ h

pub last_is : (es : Entries) → slice_get es (length es - 1) ≡ last_entry es
last_is [] = refl
last_is (e ∷ es) = last_more e es (last_is es)

-- Names that rise.

both : (a b : Bool) → T a → T b → T (a && b)
both true b p q = q
both false b p q = absurd p

first_of_both : (a b : Bool) → T (a && b) → T a
first_of_both true b p = tt
first_of_both false b p = absurd p

is_true : (b : Bool) → T b → b ≡ true
is_true true p = refl
is_true false p = absurd p

-- each name is above the ones before it
abbrev pub are_rising : Entries → Entries → Bool
are_rising before [] = true
are_rising before (e ∷ es) = is_after before e.0 && are_rising (before ++ e ∷ []) es

below_less : (x y : List ℕ) (es : Entries) → by_bytes x y ≡ Less → T (below_all by_bytes y es) → T (below_all by_bytes x es)
below_less x y [] p h = tt
below_less x y (e ∷ es) p h =
    both _ _ (subst (λ r. T (is_lt r)) (sym (nat_list_cmp_total.trans x y e.0 p (less _ (first_of_both _ _ h)))) tt) (below_less x y es p (second _ _ h))

pub sorted_push : (es : Entries) (e : List ℕ × ℕ) → T (is_sorted by_bytes es) → T (is_after es e.0) → T (is_sorted by_bytes (es ++ e ∷ []))
sorted_push [] e s h = tt
sorted_push (f ∷ []) e s h = both _ _ (both _ _ h tt) tt
sorted_push (f ∷ g ∷ es) e s h =
    let rest : T (is_sorted by_bytes ((g ∷ es) ++ e ∷ [])) = sorted_push (g ∷ es) e (second _ _ s) h in
    let here : T (is_lt (by_bytes f.0 g.0)) = first_of_both _ _ (first_of_both _ _ s) in
    both _ _ (both _ _ here (below_less f.0 g.0 (es ++ e ∷ []) (less _ here) (first_of_both _ _ rest))) rest

after_of : (before es : Entries) (e : List ℕ × ℕ) → T (is_sorted by_bytes (before ++ e ∷ es)) → T (is_after before e.0)
after_of [] es e s = tt
after_of (f ∷ []) es e s = first_of_both _ _ (first_of_both _ _ s)
after_of (f ∷ g ∷ before) es e s = after_of (g ∷ before) es e (second _ _ s)

rising_sorted : (before es : Entries) → T (is_sorted by_bytes before) → are_rising before es ≡ true → T (is_sorted by_bytes (before ++ es))
rising_sorted before [] s h = subst (λ xs. T (is_sorted by_bytes xs)) (sym (append-nil before)) s
rising_sorted before (e ∷ es) s h =
    let p = and_parts (is_after before e.0) _ h in
    subst (λ xs. T (is_sorted by_bytes xs)) (append_assoc before (e ∷ []) es) (rising_sorted (before ++ e ∷ []) es (sorted_push before e s (holds _ p.0)) p.1)

sorted_rising : (before es : Entries) → T (is_sorted by_bytes (before ++ es)) → are_rising before es ≡ true
sorted_rising before [] s = refl
sorted_rising before (e ∷ es) s =
    and_from _ _ (is_true _ (after_of before es e s)) (sorted_rising (before ++ e ∷ []) es (subst (λ xs. T (is_sorted by_bytes xs)) (sym (append_assoc before (e ∷ []) es)) s))

-- Entries.

-- the name and the id are in their ranges
abbrev pub is_entry : List ℕ × ℕ → Bool
is_entry e = name.fits e.0 && id.fits e.1

entry_group : (f r g m a s c : Bool) → (((f && r) && (g && not m)) && (a && (s && c))) ≡ (((f && g) && a) && ((r && s) && (not m && c)))
entry_group false r g m a s c = refl
entry_group true false false m a s c = refl
entry_group true false true m true s c = refl
entry_group true false true m false s c = refl
entry_group true true false m a s c = refl
entry_group true true true true true true c = refl
entry_group true true true true true false c = refl
entry_group true true true true false s c = refl
entry_group true true true false true true c = refl
entry_group true true true false true false c = refl
entry_group true true true false false s c = refl

pub entries_fit : (before es : Entries) → rows_fit entry_after before es ≡ (list_all is_entry es && (are_rising before es && are_fresh (ids_under before) (ids_under es)))
unfolding entry_after
entries_fit before [] = refl
entries_fit before (e ∷ es) =
    let later : rows_fit entry_after (before ++ e ∷ []) es ≡ (list_all is_entry es && (are_rising (before ++ e ∷ []) es && are_fresh (ids_under before ++ e.1 ∷ []) (ids_under es))) =
    entries_fit (before ++ e ∷ []) es ∙ rw (map_push (λ (f : List ℕ × ℕ). f.1) before e) refl in
    ap (λ r. ((name.fits e.0 && is_after before e.0) && (id.fits e.1 && not (member e.1 (ids_under before)))) && r) later
    ∙ entry_group (name.fits e.0) (is_after before e.0) (id.fits e.1) (member e.1 (ids_under before)) (list_all is_entry es) (are_rising (before ++ e ∷ []) es) (are_fresh (ids_under before ++ e.1 ∷ []) (ids_under es))

pub entries_sound : (es : Entries) → entries_field.fits es ≡ true → (nat_le (length es) max_entries ≡ true) × T (is_sorted by_bytes es) × (distinct (ids_under es) ≡ true)
unfolding entries_field
entries_sound es h =
    let a = and_parts ((such (λ n. nat_le n max_entries) byte).fits (length es)) _ h in
    let b = and_parts (list_all is_entry es) _ (sym (entries_fit [] es) ∙ a.1) in
    let c = and_parts (are_rising [] es) (are_fresh [] (ids_under es)) b.1 in
    ((and_parts (byte.fits (length es)) (nat_le (length es) max_entries) a.0).1, rising_sorted [] es tt c.0, sym (fresh_is [] (ids_under es)) ∙ c.1)

pub entries_coded : (es : Entries) → byte.fits (length es) ≡ true → nat_le (length es) max_entries ≡ true → list_all is_entry es ≡ true → T (is_sorted by_bytes es) → distinct (ids_under es) ≡ true → entries_field.fits es ≡ true
unfolding entries_field
entries_coded es short most each sorted once =
    and_from _ _ (and_from _ _ short most) (entries_fit [] es ∙ and_from _ _ each (and_from _ _ (sorted_rising [] es sorted) (fresh_is [] (ids_under es) ∙ once)))

-- Images.

-- what has a code is sound, and its names rise
pub fits_image : (i : Image) → image_code.fits i ≡ true → is_sound_image i ≡ true
unfolding image_code image_form file_fields dir_fields content mode_field
fits_image Gone h = refl
fits_image (File m s w bs) h =
    let a = and_parts (mode_field.fits m) _ h in
    let b = and_parts ((number w64).fits s) _ a.1 in
    let c = and_parts ((number w32).fits w) _ b.1 in
    and_from _ _ (and_parts ((number w16).fits m) (nat_le m 4095) a.0).1 (and_parts ((number w32).fits (length bs)) (nat_le (length bs) max_file_bytes) c.1).1
fits_image (Dir m s w es) h =
    let a = and_parts (mode_field.fits m) _ h in
    let b = and_parts ((number w64).fits s) _ a.1 in
    let c = and_parts ((number w32).fits w) _ b.1 in
    let e = entries_sound es c.1 in
    and_from _ _ (and_from _ _ (and_parts ((number w16).fits m) (nat_le m 4095) a.0).1 e.0) e.2

pub fits_old_image : (i : Image) → old_image_code.fits i ≡ true → is_sound_image i ≡ true
unfolding old_image_code old_image_form old_file_fields old_dir_fields content mode_field
fits_old_image Gone h = refl
fits_old_image (File m s zero bs) h =
    let a = and_parts (mode_field.fits m) _ h in
    let b = and_parts ((number w64).fits s) _ a.1 in
    and_from _ _ (and_parts ((number w16).fits m) (nat_le m 4095) a.0).1 (and_parts ((number w32).fits (length bs)) (nat_le (length bs) max_file_bytes) b.1).1
fits_old_image (File m s (suc w) bs) h = absurd cc
fits_old_image (Dir m s zero es) h =
    let a = and_parts (mode_field.fits m) _ h in
    let b = and_parts ((number w64).fits s) _ a.1 in
    let e = entries_sound es b.1 in
    and_from _ _ (and_from _ _ (and_parts ((number w16).fits m) (nat_le m 4095) a.0).1 e.0) e.2
fits_old_image (Dir m s (suc w) es) h = absurd cc

-- what has a code and is live is within the limits, with its names rising, and with distinct ids
pub fits_held : (i : Image) → image_code.fits i ≡ true → ((is_gone i || is_held i) ≡ true) × (distinct (map (λ e. e.1) (entries_of i)) ≡ true)
unfolding image_code image_form dir_fields
fits_held Gone h = (refl, refl)
fits_held (File m s w bs) h = (fits_image (File m s w bs) h, refl)
fits_held (Dir m s w es) h =
    let limits = and_parts (nat_le m 4095 && nat_le (length es) max_entries) (distinct (ids_under es)) (fits_image (Dir m s w es) h) in
    let a = and_parts (mode_field.fits m) _ h in
    let b = and_parts ((number w64).fits s) _ a.1 in
    let c = and_parts ((number w32).fits w) _ b.1 in
    (and_from _ _ limits.0 (is_true _ (entries_sound es c.1).1), limits.1)

pub found_image : (bytes : List ℕ) (at : ℕ) (r : Result (Image × ℕ) CodeFault) → IfOk r (λ x. Spells image_code bytes at x.0 x.1) → IfOk r (λ x. is_sound_image x.0 ≡ true)
found_image bytes at (Ok x) h = fits_image x.0 h.fits
found_image bytes at (Err e) h = tt

pub found_old_image : (bytes : List ℕ) (at : ℕ) (r : Result (Image × ℕ) CodeFault) → IfOk r (λ x. Spells old_image_code bytes at x.0 x.1) → IfOk r (λ x. is_sound_image x.0 ≡ true)
found_old_image bytes at (Ok x) h = fits_old_image x.0 h.fits
found_old_image bytes at (Err e) h = tt
