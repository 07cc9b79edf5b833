-- The bytes of tables: the durable state without its images, and where each image stands.
use Rattle.std.specs.Prelude.{◌==◌, ◌+◌, ◌-◌, ◌*◌, ℕ, Bool, true, false, not, ◌&&◌, if◌then◌else◌, nat_lt, nat_le, List, [], ◌∷◌, ◌++◌, length, map, take, Option, None, Some, Ok, Err}
use Rattle.ec_base.specs.Limits.{clerk_count}
use Rattle.ec_base.specs.declared.ids.Age.{Age}
use Rattle.ec_volume.specs.Update.{member}
use Rattle.ec_sessions.specs.declared.slot.Slot.{Slot}
use Rattle.ec_codes.specs.Formats.{Read, Format, ◌>>=◌, byte, such, then_by, standing, list, variant, nothing, empty, tagged}
use Rattle.ec_codes.specs.Fields.{word, long, id, is_from_one, id_or_none}
use Rattle.ec_codes.specs.Clerks.{age_field}
use Rattle.ec_codes.specs.declared.fault.CodeFault.TheVariants as fault
use Rattle.ec_durable.specs.declared.state.Durable.{Durable}
use Rattle.ec_journal.specs.OfLayout.Places.{table_bytes}
use Rattle.ec_stands.specs.declared.table.table.Table.{Table}
use Rattle.ec_stands.specs.declared.table.table.Version.{Version}
use Rattle.ec_stands.specs.declared.table.table.Version.TheVariants.{One, Two}
use Rattle.ec_base.specs.Options.{or_zero}

-- A slot of a clerk.

-- None, or an id
unfoldable pub last_first_field : Format (Option ℕ)
last_first_field = standing or_zero is_from_one id_or_none word

abbrev pub last_row : {A : Type 0} → List A → Option A
last_row [] = None
last_row (x ∷ []) = Some x
last_row (x ∷ y ∷ xs) = last_row (y ∷ xs)

abbrev pub is_behind : Option ℕ → ℕ → Bool
is_behind None n = true
is_behind (Some b) n = nat_lt b n

-- the number is above the last one before it
abbrev pub is_above : List ℕ → ℕ → Bool
is_above before n = is_behind (last_row before) n

-- an id above those before it
unfoldable pub id_above : List ℕ → Format ℕ
id_above before = such (is_above before) id

-- a count, and so many rising ids
unfoldable pub ids_field : Format (List ℕ)
ids_field = list word id.spell id_above

-- age, session, low, mask, grants, first id of the last grant, unspent ids
unfoldable pub slot_fields : Format (Age × (ℕ × (ℕ × (ℕ × (ℕ × (Option ℕ × List ℕ))))))
slot_fields = then_by age_field (λ age. then_by long (λ session. then_by long (λ low. then_by byte (λ mask. then_by word (λ grants. then_by last_first_field (λ first. ids_field))))))

-- 0 for a clerk that never had a session, 1 for an open one, 2 for an ended one
abbrev pub slot_tag : Option Slot → ℕ
slot_tag None = 0
slot_tag (Some sl) = if sl.is_open then 1 else 2

abbrev pub fields_of : Slot → Age × (ℕ × (ℕ × (ℕ × (ℕ × (Option ℕ × List ℕ)))))
fields_of sl = (sl.age, (sl.session, (sl.window.low, (sl.window.mask, (sl.grants, (sl.last_first, sl.unspent))))))

abbrev pub slot_of : Bool → Age × (ℕ × (ℕ × (ℕ × (ℕ × (Option ℕ × List ℕ))))) → Option Slot
slot_of opened p =
    Some (record {
      age = p.0;
      session = p.1.0;
      is_open = opened;
      window = record { low = p.1.1.0; mask = p.1.1.1.0 };
      grants = p.1.1.1.1.0;
      last_first = p.1.1.1.1.1.0;
      unspent = p.1.1.1.1.1.1;
    })

abbrev pub never : Option Slot → Option (Unit {0})
never None = Some tt
never (Some sl) = None

abbrev pub to_never : Unit {0} → Option Slot
to_never u = None

-- the fields of a slot that is open or ended, as is asked
abbrev pub held : Bool → Option Slot → Option (Age × (ℕ × (ℕ × (ℕ × (ℕ × (Option ℕ × List ℕ))))))
held opened None = None
held true (Some sl) = if sl.is_open then Some (fields_of sl) else None
held false (Some sl) = if sl.is_open then None else Some (fields_of sl)

unfoldable pub slot_form : ℕ → Format (Option Slot)
slot_form t =
    if t == 0 then variant never to_never empty
    else if t == 1 then variant (held true) (slot_of true) slot_fields
    else if t == 2 then variant (held false) (slot_of false) slot_fields
    else nothing

unfoldable pub slot_code : Format (Option Slot)
slot_code = tagged (λ t. nat_le t 2) slot_tag slot_form

-- no bytes; so many
abbrev pub always : ℕ → Format ℕ
always n = record { spell = λ m. []; fits = λ m. m == n; read = λ bytes at. Ok (n, at) }

-- the slots of the clerks in order
unfoldable pub slots_field : Format (List (Option Slot))
slots_field = list (always clerk_count) slot_code.spell (λ before. slot_code)

-- Where the images stand.

abbrev pub ids_in : List (ℕ × ℕ) → List ℕ
ids_in places = map (λ p. p.0) places

abbrev pub numbers_in : List (ℕ × ℕ) → List ℕ
numbers_in places = map (λ p. p.1) places

-- a disk has twice as many slots for images as objects may live
abbrev pub is_free : ℕ → List ℕ → ℕ → Bool
is_free most used n = nat_lt n (2 * most) && not (member n used)

-- an id above those before it, and a slot that none of them has
unfoldable pub place_after : ℕ → List (ℕ × ℕ) → Format (ℕ × ℕ)
place_after most before = then_by (id_above (ids_in before)) (λ o. such (is_free most (numbers_in before)) word)

unfoldable pub place_spell : ℕ × ℕ → List ℕ
place_spell p = id.spell p.0 ++ word.spell p.1

-- a count, and so often a live object's id and its slot
unfoldable pub places_field : ℕ → Format (List (ℕ × ℕ))
places_field most = list word place_spell (place_after most)

-- The state.

unfoldable pub state_fields : ℕ → Format (ℕ × (ℕ × (ℕ × (List (Option Slot) × List (ℕ × ℕ)))))
state_fields most = then_by word (λ next. then_by long (λ session. then_by long (λ epoch. then_by slots_field (λ slots. places_field most))))

abbrev pub parts_of : Table → ℕ × (ℕ × (ℕ × (List (Option Slot) × List (ℕ × ℕ))))
parts_of t = (t.next_id, (t.next_session, (t.epoch, (t.slots, t.places))))

abbrev pub table_of : ℕ × (ℕ × (ℕ × (List (Option Slot) × List (ℕ × ℕ)))) → Table
table_of p = record { next_id = p.0; next_session = p.1.0; epoch = p.1.1.0; slots = p.1.1.1.0; places = p.1.1.1.1 }

-- of a volume of so many objects at most
unfoldable pub state_code : ℕ → Format Table
state_code most = standing parts_of (λ t. true) (λ p. Some (table_of p)) (state_fields most)

-- A length, and a value in so many bytes. Nothing may stand between the value and their end.

abbrev pub ends_at : {A : Type 0} → ℕ → A × ℕ → Read A
ends_at end x = if nat_lt x.1 end then Err (fault.Field x.1) else Ok x

-- the value, with the length and the place behind it
abbrev pub in_size : {A : Type 0} → Format A → List ℕ → ℕ × ℕ → Read A
in_size F bytes n = F.read (take (n.1 + n.0) bytes) n.1 >>= ends_at (n.1 + n.0)

abbrev pub sized : {A : Type 0} → ℕ → Format A → Format A
sized limit F = record {
  spell = λ x. word.spell (length (F.spell x)) ++ F.spell x;
  fits = λ x. F.fits x && nat_le (length (F.spell x)) limit;
  read = λ bytes at. (such (λ n. nat_le n limit) word).read bytes at >>= in_size F bytes;
}

-- A table: version 1 begins with the length, version 2 with a byte 2.

-- the bytes of a state behind the length, and behind a byte 2 and the length
abbrev pub max_old_state : ℕ
max_old_state = table_bytes - 4

abbrev pub max_new_state : ℕ
max_new_state = max_old_state - 1

unfoldable pub old_table : ℕ → Format Table
old_table most = sized max_old_state (state_code most)

unfoldable pub new_table : ℕ → Format Table
new_table most = sized max_new_state (state_code most)

-- as a version and a table
abbrev pub Versioned : Type 0
Versioned = Version × Table

abbrev pub spell_version : ℕ → Version → Table → List ℕ
spell_version most One t = (old_table most).spell t
spell_version most Two t = 2 ∷ (new_table most).spell t

abbrev pub fits_version : ℕ → Version → Table → Bool
fits_version most One t = (old_table most).fits t
fits_version most Two t = (new_table most).fits t

abbrev pub in_version : Version → Table × ℕ → Read Versioned
in_version v x = Ok ((v, x.0), x.1)

-- the first byte tells the version
unfoldable pub read_version : ℕ → List ℕ → ℕ → ℕ × ℕ → Read Versioned
read_version most bytes at b =
    if b.0 == 0 then ((old_table most).read bytes at >>= in_version One)
    else if b.0 == 2 then ((new_table most).read bytes b.1 >>= in_version Two)
    else Err (fault.Field at)

unfoldable pub table_code : ℕ → Format Versioned
table_code most = record {
  spell = λ x. spell_version most x.0 x.1;
  fits = λ x. fits_version most x.0 x.1;
  read = λ bytes at. byte.read bytes at >>= read_version most bytes at;
}

-- the table of a state whose images stand in these slots
abbrev pub described : Durable → List (ℕ × ℕ) → Table
described d places = record { next_id = d.next_id; next_session = d.next_session; epoch = d.epoch; slots = d.sessions; places = places }
