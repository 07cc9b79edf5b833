-- What an update tests and changes, at each operand by itself.
use Rattle.std.specs.Prelude.{◌==◌, ◌+◌, ℕ, Bool, true, false, not, ◌&&◌, ◌||◌, if◌then◌else◌, nat_lt, nat_le, List, [], ◌∷◌, ◌++◌, map, length, Option, None, Some, is_some}
use Rattle.std.specs.List.{filter, list_any}
use Rattle.ec_volume.specs.Limits.{max_file_bytes, max_entries, max_mode, max_write_bytes, max_ordered, max_above}
use Rattle.ec_volume.specs.Entries.{with_entry, without_entry, same_name}
use Rattle.ec_volume.specs.Image.{entries_of, bytes_of, is_gone, is_file, is_kind, is_id, lacks, gives, is_bare, yields, resized, overwritten, with_bytes, with_entries, with_mode, with_stamp, with_owner, new_object}
use Rattle.ec_volume.specs.declared.image.Kind.{Kind}
use Rattle.ec_volume.specs.declared.image.Kind.TheVariants as kind
use Rattle.ec_volume.specs.declared.image.Image.{Image}
use Rattle.ec_volume.specs.declared.image.Image.TheVariants.{Gone}
use Rattle.ec_volume.specs.declared.update.Update.{Update}
use Rattle.ec_volume.specs.declared.update.Update.TheVariants.{Make, Drop, Move, Put, Len, Mode, Stamp, Order, Shift, Owner}

-- the root's id
abbrev pub root : ℕ
root = 1

abbrev pub listed : Option ℕ → List ℕ
listed None = []
listed (Some o) = o ∷ []

abbrev pub member : ℕ → List ℕ → Bool
member o os = list_any (λ p. o == p) os

-- The operands.

-- directories above another one, each with the name that leads on
abbrev pub Above : Type 0
Above = List (ℕ × List ℕ)

abbrev pub ids_of : Above → List ℕ
ids_of up = map (λ e. e.0) up

abbrev pub operands : Update → List ℕ
operands (Make dir name obj k) = dir ∷ obj ∷ []
operands (Drop dir name obj k) = dir ∷ obj ∷ []
operands (Move dir from to obj k victim) = dir ∷ obj ∷ listed victim
operands (Put obj at bytes inside) = obj ∷ []
operands (Len obj len) = obj ∷ []
operands (Mode obj mode) = obj ∷ []
operands (Stamp obj stamp) = obj ∷ []
operands (Order objs) = objs
operands (Shift dir from into to obj k victim up) = dir ∷ into ∷ obj ∷ listed victim ++ filter (λ o. not (o == dir)) (ids_of up)
operands (Owner obj owner) = obj ∷ []

abbrev pub is_make : Update → Bool
is_make (Make dir name obj k) = true
is_make _ = false

abbrev pub has_operand : ℕ → Update → Bool
has_operand o u = member o (operands u)

-- The tests.

-- the first of the directories, or the one that they lead to
abbrev pub first_of : Above → ℕ → ℕ
first_of [] into = into
first_of (e ∷ up) into = e.0

-- where o is one of the directories, its image names the next one, or the last the one that they lead to
abbrev pub leads : Above → ℕ → ℕ → Image → Bool
leads [] into o i = true
leads (e ∷ up) into o i = (not (o == e.0) || gives e.1 (first_of up into) i) && leads up into o i

-- room for the new name: there is a victim, or fewer entries than a directory may have
abbrev pub has_room : Option ℕ → Image → Bool
has_room victim i = is_some victim || nat_lt (length (entries_of i)) max_entries

-- Whether the update fits the image i of its operand o.
abbrev pub fits : Update → ℕ → Image → Bool
fits (Make dir name obj k) o i = if o == dir then lacks name i && nat_lt (length (entries_of i)) max_entries else is_gone i
fits (Drop dir name obj k) o i = if o == dir then gives name obj i else is_bare k i
fits (Move dir from to obj k victim) o i = if o == dir then gives from obj i && yields to victim i else (if o == obj then is_kind k i else is_bare k i)
fits (Put obj at bytes inside) o i = is_file i && (not inside || nat_le (at + length bytes) (length (bytes_of i)))
fits (Len obj len) o i = is_file i
fits (Mode obj mode) o i = not (is_gone i)
fits (Stamp obj stamp) o i = not (is_gone i)
fits (Order objs) o i = not (is_gone i)
fits (Shift dir from into to obj k victim up) o i =
    leads up into o i
    && (if o == dir then gives from obj i
    else if o == into then yields to victim i && has_room victim i
    else if o == obj then is_kind k i
    else (not (is_id o victim) || is_bare k i))
fits (Owner obj owner) o i = not (is_gone i)

-- The new image of the operand o, whose image is i.
abbrev pub effect : Update → ℕ → Image → Image
effect (Make dir name obj k) o i = if o == dir then with_entries (λ es. with_entry es name obj) i else new_object k
effect (Drop dir name obj k) o i = if o == dir then with_entries (λ es. without_entry es name) i else Gone
effect (Move dir from to obj k victim) o i = if o == dir then with_entries (λ es. with_entry (without_entry es from) to obj) i else (if o == obj then i else Gone)
effect (Put obj at bytes inside) o i = with_bytes (overwritten at bytes) i
effect (Len obj len) o i = with_bytes (resized len) i
effect (Mode obj mode) o i = with_mode mode i
effect (Stamp obj stamp) o i = with_stamp stamp i
effect (Order objs) o i = i
effect (Shift dir from into to obj k victim up) o i =
    if o == dir then with_entries (λ es. without_entry es from) i
    else if o == into then with_entries (λ es. with_entry es to obj) i
    else if is_id o victim then Gone
    else i
effect (Owner obj owner) o i = with_owner owner i

-- The first of these operands at which the update doesn't fit the volume.
abbrev pub first_unfit : Update → (ℕ → Image) → List ℕ → Option ℕ
first_unfit u v [] = None
first_unfit u v (o ∷ os) = if fits u o (v o) then first_unfit u v os else Some o

-- Which updates are sound.

abbrev pub distinct : List ℕ → Bool
distinct [] = true
distinct (o ∷ os) = not (member o os) && distinct os

-- The directories above one that takes a file, or above the root, don't matter; else they begin with the root.
abbrev pub is_way : Kind → ℕ → Above → Bool
is_way kind.File into up = length up == 0
is_way kind.Dir into up =
    if into == root then length up == 0
    else nat_le 1 (length up) && nat_le (length up) max_above && (first_of up into == root)

abbrev pub is_within : Update → Bool
is_within (Move dir from to obj k victim) = not (same_name from to)
is_within (Put obj at bytes inside) = nat_le 1 (length bytes) && nat_le (length bytes) max_write_bytes && nat_le (at + length bytes) max_file_bytes
is_within (Len obj len) = nat_le len max_file_bytes
is_within (Mode obj mode) = nat_le mode max_mode
is_within (Order objs) = nat_le 1 (length objs) && nat_le (length objs) max_ordered
is_within (Shift dir from into to obj k victim up) = distinct (ids_of up) && is_way k into up
is_within _ = true

abbrev pub is_sound : Update → Bool
is_sound u = distinct (operands u) && is_within u
