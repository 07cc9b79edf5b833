-- No code is longer than the bounds.
use Rattle.std.proofs.Common.{◌≡◌, ℕ, zero, suc, ◌+◌, ◌*◌, ◌<◌, ◌≤◌, Bool, true, false, cond, eqb, ◌&&◌, List, [], ◌∷◌, ◌++◌, length, Option, Some, None, refl, sym, ap, ◌∙◌, arith, length-append}
use Rattle.std.specs.Prelude.{nat_le, ◌==◌}
use Rattle.std.specs.Int.{w16, w32, w64}
use Rattle.std.specs.List.{flat_map, list_all}
use Rattle.std.proofs.Math.Nat.{suc-mul}
use Rattle.std.proofs.lemmas.Bool.{and_parts, leb-true}
use Rattle.std.proofs.lemmas.Bool.Decides.{nat_tests}
use Rattle.ec_base.specs.Limits.{max_name_bytes}
use Rattle.ec_volume.specs.Entries.{Entries}
use Rattle.ec_volume.specs.Update.{Above, root, listed}
use Rattle.ec_volume.specs.declared.image.Kind.{Kind}
use Rattle.ec_volume.specs.declared.image.Kind.TheVariants as kind
use Rattle.ec_volume.specs.declared.image.Image.{Image}
use Rattle.ec_volume.specs.declared.image.Image.TheVariants as image
use Rattle.ec_volume.specs.declared.update.Update.{Update}
use Rattle.ec_volume.specs.declared.update.Update.TheVariants.{Make, Drop, Move, Put, Len, Mode, Stamp, Order, Shift, Owner}
use Rattle.ec_codes.specs.Formats.{Format, byte, number, such, rows_fit}
use Rattle.ec_codes.specs.Fields.{id, id_but, kind_field, flag, mode_field, victim_but, is_name_length, is_name, name}
use Rattle.ec_codes.specs.Updates.{entry_fields, move_fields, is_put_length, put_fields, len_fields, mode_fields, stamp_fields, owner_fields, is_order_count, order_fields, is_way_count, step_spell, step_fields, way_fields, shift_fields, form, update_code}
use Rattle.ec_codes.specs.SoundLaws.{is_step, steps_fit}
use Rattle.ec_codes.specs.Images.{max_entries, max_file_bytes, entry_spell, entries_field, content, file_fields, dir_fields, image_form, image_code}
use Rattle.ec_codes.specs.EntryLaws.{is_entry, entries_fit}
use Rattle.ec_codes.specs.Lengths.{max_update_code, max_file_code, max_dir_code}

-- Rows.

pub rows_long : {A : Type 0} (spell : A → List ℕ) (p : A → Bool) (k : ℕ) → ((x : A) → p x ≡ true → length (spell x) ≤ k) → (n : ℕ) (xs : List A) → list_all p xs ≡ true → length xs ≤ n → length (flat_map spell xs) ≤ n * k
rows_long spell p k each n [] h le = zero_least (n * k)
  where
    zero_least : (m : ℕ) → 0 ≤ m
    zero_least m = omega arith
rows_long spell p k each zero (x ∷ xs) h le = absurd (omega arith)
rows_long spell p k each (suc n) (x ∷ xs) h le =
    let a = and_parts (p x) (list_all p xs) h in
    let rest = rows_long spell p k each n xs a.1 (omega arith) in
    let len : length (flat_map spell (x ∷ xs)) ≡ length (spell x) + length (flat_map spell xs) = length-append (spell x) (flat_map spell xs) in
    omega (arith, len, each x a.0, rest, suc-mul n k)

-- Fields.

pub name_long : (n : List ℕ) → name.fits n ≡ true → length (name.spell n) ≤ 1 + max_name_bytes
unfolding name
name_long n h =
    let a = and_parts ((such is_name_length byte).fits (length n)) (is_name n) h in
    let b = and_parts (byte.fits (length n)) (is_name_length (length n)) a.0 in
    let c = and_parts (nat_le 1 (length n)) (nat_le (length n) max_name_bytes) b.1 in
    let le : length n ≤ 64 = leb-true _ _ c.1 in
    omega (arith, le)

-- Updates.

entry_long : (dir obj : ℕ) (k : Kind) (n : List ℕ) → entry_fields.fits (dir, (obj, (k, n))) ≡ true → length (entry_fields.spell (dir, (obj, (k, n)))) ≤ 74
unfolding entry_fields id kind_field
entry_long dir obj k n h =
    let a = and_parts (id.fits dir) _ h in
    let b = and_parts ((id_but (dir ∷ [])).fits obj) _ a.1 in
    let c = and_parts (kind_field.fits k) _ b.1 in
    omega (arith, name_long n c.1)

move_long : (dir obj : ℕ) (k : Kind) (v : Option ℕ) (from to : List ℕ) → move_fields.fits (dir, (obj, (k, (v, (from, to))))) ≡ true → length (move_fields.spell (dir, (obj, (k, (v, (from, to)))))) ≤ 143
unfolding move_fields id kind_field
move_long dir obj k v from to h =
    let a = and_parts (id.fits dir) _ h in
    let b = and_parts ((id_but (dir ∷ [])).fits obj) _ a.1 in
    let c = and_parts (kind_field.fits k) _ b.1 in
    let d = and_parts ((victim_but (dir ∷ obj ∷ [])).fits v) _ c.1 in
    let e = and_parts (name.fits from) _ d.1 in
    let f = and_parts (name.fits to) _ e.1 in
    omega (arith, length-append (name.spell from) (name.spell to), name_long from e.0, name_long to f.0)

put_long : (obj at : ℕ) (inside : Bool) (bytes : List ℕ) → put_fields.fits (obj, (at, (inside, bytes))) ≡ true → length (put_fields.spell (obj, (at, (inside, bytes)))) ≤ 4107
unfolding put_fields id flag
put_long obj at inside bytes h =
    let a = and_parts (id.fits obj) _ h in
    let b = and_parts ((number w32).fits at) _ a.1 in
    let c = and_parts (flag.fits inside) _ b.1 in
    let d = and_parts ((number w16).fits (length bytes)) (is_put_length at (length bytes)) c.1 in
    let e = and_parts (nat_le 1 (length bytes) && nat_le (length bytes) 4096) (nat_le (at + length bytes) 65536) d.1 in
    let f = and_parts (nat_le 1 (length bytes)) (nat_le (length bytes) 4096) e.0 in
    let le : length bytes ≤ 4096 = leb-true _ _ f.1 in
    omega (arith, le)

ids_long : (os : List ℕ) → length (flat_map id.spell os) ≡ 4 * length os
unfolding id
ids_long [] = refl
ids_long (o ∷ os) = let rest = ids_long os in omega (arith, rest)

order_long : (os : List ℕ) → order_fields.fits os ≡ true → length (order_fields.spell os) ≤ 33
unfolding order_fields
order_long os h =
    let a = and_parts ((such is_order_count byte).fits (length os)) _ h in
    let b = and_parts (byte.fits (length os)) (is_order_count (length os)) a.0 in
    let c = and_parts (nat_le 1 (length os)) (nat_le (length os) 8) b.1 in
    let le : length os ≤ 8 = leb-true _ _ c.1 in
    omega (arith, le, ids_long os)

way_few : (k : Kind) (b : Bool) (n : ℕ) → (elim k [ kind.File ↦ n == 0 | kind.Dir ↦ cond b (n == 0) (nat_le 1 n && nat_le n 15) ]) ≡ true → n ≤ 15
way_few kind.File b n h = grind (arith, nat_tests)
way_few kind.Dir true n h = grind (arith, nat_tests)
way_few kind.Dir false n h = grind (arith, nat_tests)

way_count : (k : Kind) (into n : ℕ) → is_way_count k into n ≡ true → n ≤ 15
way_count kind.File into n h = way_few kind.File (into == root) n h
way_count kind.Dir into n h = way_few kind.Dir (into == root) n h

step_long : (e : ℕ × List ℕ) → is_step e ≡ true → length (step_spell e) ≤ 69
unfolding step_spell id
step_long e h =
    let a = and_parts (id.fits e.0) (name.fits e.1) h in
    omega (arith, name_long e.1 a.1)

way_long : (k : Kind) (into : ℕ) (os : List ℕ) (up : Above) → (way_fields k into os).fits up ≡ true → length ((way_fields k into os).spell up) ≤ 1036
unfolding way_fields
way_long k into os up h =
    let a = and_parts ((such (is_way_count k into) byte).fits (length up)) _ h in
    let b = and_parts (byte.fits (length up)) (is_way_count k into (length up)) a.0 in
    let c = and_parts (list_all is_step up) _ (sym (steps_fit os [] up) ∙ a.1) in
    let rows : length (flat_map step_spell up) ≤ 15 * 69 = rows_long step_spell is_step 69 step_long 15 up c.0 (way_count k into (length up) b.1) in
    omega (arith, rows)

shift_long : (dir into obj : ℕ) (k : Kind) (v : Option ℕ) (from to : List ℕ) (up : Above) → shift_fields.fits (dir, (into, (obj, (k, (v, (from, (to, up))))))) ≡ true
    → length (shift_fields.spell (dir, (into, (obj, (k, (v, (from, (to, up)))))))) ≤ 1183
unfolding shift_fields id kind_field
shift_long dir into obj k v from to up h =
    let os : List ℕ = into ∷ obj ∷ listed v in
    let a = and_parts (id.fits dir) _ h in
    let b = and_parts ((id_but (dir ∷ [])).fits into) _ a.1 in
    let c = and_parts ((id_but (dir ∷ into ∷ [])).fits obj) _ b.1 in
    let d = and_parts (kind_field.fits k) _ c.1 in
    let e = and_parts ((victim_but (dir ∷ into ∷ obj ∷ [])).fits v) _ d.1 in
    let f = and_parts (name.fits from) _ e.1 in
    let g = and_parts (name.fits to) _ f.1 in
    let way = (way_fields k into os).spell up in
    omega (arith, length-append (name.spell from) (name.spell to ++ way), length-append (name.spell to) way, name_long from f.0, name_long to g.0, way_long k into os up g.1)

pub update_long : (u : Update) → update_code.fits u ≡ true → length (update_code.spell u) ≤ max_update_code
unfolding update_code form len_fields mode_fields stamp_fields owner_fields id mode_field
update_long (Make dir n obj k) h = omega (arith, entry_long dir obj k n h)
update_long (Drop dir n obj k) h = omega (arith, entry_long dir obj k n h)
update_long (Move dir from to obj k v) h = omega (arith, move_long dir obj k v from to h)
update_long (Put obj at bytes inside) h = omega (arith, put_long obj at inside bytes h)
update_long (Len obj len) h = omega arith
update_long (Mode obj mode) h = omega arith
update_long (Stamp obj stamp) h = omega arith
update_long (Order os) h = omega (arith, order_long os h)
update_long (Shift dir from into to obj k v up) h = omega (arith, shift_long dir into obj k v from to up h)
update_long (Owner obj owner) h = omega arith

-- Images.

entry_row_long : (e : List ℕ × ℕ) → is_entry e ≡ true → length (entry_spell e) ≤ 69
unfolding entry_spell id
entry_row_long e h =
    let a = and_parts (name.fits e.0) (id.fits e.1) h in
    omega (arith, length-append (name.spell e.0) (id.spell e.1), name_long e.0 a.0)

entries_long : (es : Entries) → entries_field.fits es ≡ true → length (entries_field.spell es) ≤ 8833
unfolding entries_field
entries_long es h =
    let a = and_parts ((such (λ n. nat_le n max_entries) byte).fits (length es)) _ h in
    let b = and_parts (byte.fits (length es)) (nat_le (length es) max_entries) a.0 in
    let c = and_parts (list_all is_entry es) _ (sym (entries_fit [] es) ∙ a.1) in
    let rows : length (flat_map entry_spell es) ≤ 128 * 69 = rows_long entry_spell is_entry 69 entry_row_long 128 es c.0 (leb-true _ _ b.1) in
    omega (arith, rows)

pub file_long : (m s w : ℕ) (bs : List ℕ) → image_code.fits (image.File m s w bs) ≡ true → length (image_code.spell (image.File m s w bs)) ≤ max_file_code
unfolding image_code image_form file_fields mode_field content
file_long m s w bs h =
    let a = and_parts (mode_field.fits m) _ h in
    let b = and_parts ((number w64).fits s) _ a.1 in
    let c = and_parts ((number w32).fits w) _ b.1 in
    let d = and_parts ((number w32).fits (length bs)) (nat_le (length bs) max_file_bytes) c.1 in
    let le : length bs ≤ 65536 = leb-true _ _ d.1 in
    omega (arith, le)

pub dir_long : (m s w : ℕ) (es : Entries) → image_code.fits (image.Dir m s w es) ≡ true → length (image_code.spell (image.Dir m s w es)) ≤ max_dir_code
unfolding image_code image_form dir_fields mode_field
dir_long m s w es h =
    let a = and_parts (mode_field.fits m) _ h in
    let b = and_parts ((number w64).fits s) _ a.1 in
    let c = and_parts ((number w32).fits w) _ b.1 in
    omega (arith, entries_long es c.1)
