-- The codes of images: a byte for the kind, and then the fields in order; and those of an earlier version, without owners.
use Rattle.std.specs.Prelude.{◌==◌, ℕ, zero, Bool, true, if◌then◌else◌, nat_le, List, [], ◌∷◌, ◌++◌, map, Option, None, Some}
use Rattle.std.specs.Int.{w32, w64}
use Rattle.std.specs.Ordering.{is_lt}
use Rattle.ec_volume.specs.Entries.{Entries, by_bytes}
use Rattle.ec_volume.specs.declared.image.Image.{Image}
use Rattle.ec_volume.specs.declared.image.Image.TheVariants.{Gone, File, Dir}
use Rattle.ec_codes.specs.Formats.{Format, byte, number, such, then_by, text, list, variant, nothing, empty, tagged}
use Rattle.ec_codes.specs.Fields.{id, id_but, mode_field, name}

-- the greatest length of a file
abbrev pub max_file_bytes : ℕ
max_file_bytes = 65536

-- the greatest number of a directory's entries
abbrev pub max_entries : ℕ
max_entries = 128

-- a length and the bytes of a file
unfoldable pub content : Format (List ℕ)
content = text (such (λ n. nat_le n max_file_bytes) (number w32))

abbrev pub last_entry : Entries → Option (List ℕ × ℕ)
last_entry [] = None
last_entry (e ∷ []) = Some e
last_entry (e ∷ f ∷ es) = last_entry (f ∷ es)

abbrev pub is_behind : Option (List ℕ × ℕ) → List ℕ → Bool
is_behind None n = true
is_behind (Some e) n = is_lt (by_bytes e.0 n)

-- the name is above the last one of the entries before it
abbrev pub is_after : Entries → List ℕ → Bool
is_after before n = is_behind (last_entry before) n

abbrev pub ids_under : Entries → List ℕ
ids_under es = map (λ e. e.1) es

-- a name above those before it, and an id that isn't one of theirs
unfoldable pub entry_after : Entries → Format (List ℕ × ℕ)
entry_after before = then_by (such (is_after before) name) (λ n. id_but (ids_under before))

unfoldable pub entry_spell : List ℕ × ℕ → List ℕ
entry_spell e = name.spell e.0 ++ id.spell e.1

-- a count and the entries, by rising names
unfoldable pub entries_field : Format Entries
entries_field = list (such (λ n. nat_le n max_entries) byte) entry_spell entry_after

-- mode, stamp, owner, length and bytes
unfoldable pub file_fields : Format (ℕ × (ℕ × (ℕ × List ℕ)))
file_fields = then_by mode_field (λ mode. then_by (number w64) (λ stamp. then_by (number w32) (λ owner. content)))

-- mode, stamp, owner, count and entries
unfoldable pub dir_fields : Format (ℕ × (ℕ × (ℕ × Entries)))
dir_fields = then_by mode_field (λ mode. then_by (number w64) (λ stamp. then_by (number w32) (λ owner. entries_field)))

-- mode, stamp, length and bytes
unfoldable pub old_file_fields : Format (ℕ × (ℕ × List ℕ))
old_file_fields = then_by mode_field (λ mode. then_by (number w64) (λ stamp. content))

-- mode, stamp, count and entries
unfoldable pub old_dir_fields : Format (ℕ × (ℕ × Entries))
old_dir_fields = then_by mode_field (λ mode. then_by (number w64) (λ stamp. entries_field))

-- The forms of an image, by the tag.

abbrev pub image_tag : Image → ℕ
image_tag Gone = 0
image_tag (File m s w bs) = 1
image_tag (Dir m s w es) = 2

abbrev pub is_image_tag : ℕ → Bool
is_image_tag t = nat_le t 2

abbrev pub gone : Image → Option (Unit {0})
gone Gone = Some tt
gone _ = None

abbrev pub filed : Image → Option (ℕ × (ℕ × (ℕ × List ℕ)))
filed (File m s w bs) = Some (m, (s, (w, bs)))
filed _ = None

abbrev pub listing : Image → Option (ℕ × (ℕ × (ℕ × Entries)))
listing (Dir m s w es) = Some (m, (s, (w, es)))
listing _ = None

-- without owners there is a code for owner 0 alone
abbrev pub old_filed : Image → Option (ℕ × (ℕ × List ℕ))
old_filed (File m s zero bs) = Some (m, (s, bs))
old_filed _ = None

abbrev pub old_listing : Image → Option (ℕ × (ℕ × Entries))
old_listing (Dir m s zero es) = Some (m, (s, es))
old_listing _ = None

abbrev pub to_gone : Unit {0} → Image
to_gone p = Gone

abbrev pub to_file : (ℕ × (ℕ × (ℕ × List ℕ))) → Image
to_file p = File p.0 p.1.0 p.1.1.0 p.1.1.1

abbrev pub to_dir : (ℕ × (ℕ × (ℕ × Entries))) → Image
to_dir p = Dir p.0 p.1.0 p.1.1.0 p.1.1.1

abbrev pub to_old_file : (ℕ × (ℕ × List ℕ)) → Image
to_old_file p = File p.0 p.1.0 0 p.1.1

abbrev pub to_old_dir : (ℕ × (ℕ × Entries)) → Image
to_old_dir p = Dir p.0 p.1.0 0 p.1.1

unfoldable pub image_form : ℕ → Format Image
image_form t =
    if t == 0 then variant gone to_gone empty
    else if t == 1 then variant filed to_file file_fields
    else if t == 2 then variant listing to_dir dir_fields
    else nothing

unfoldable pub old_image_form : ℕ → Format Image
old_image_form t =
    if t == 0 then variant gone to_gone empty
    else if t == 1 then variant old_filed to_old_file old_file_fields
    else if t == 2 then variant old_listing to_old_dir old_dir_fields
    else nothing

unfoldable pub image_code : Format Image
image_code = tagged is_image_tag image_tag image_form

-- version 1
unfoldable pub old_image_code : Format Image
old_image_code = tagged is_image_tag image_tag old_image_form
