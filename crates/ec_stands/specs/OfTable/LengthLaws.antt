-- How long a table is at most.
use Rattle.std.proofs.Common.{◌≡◌, ℕ, ◌+◌, ◌*◌, ◌≤◌, Bool, true, false, List, [], ◌∷◌, length, Option, Some, None, refl, arith, length-append}
use Rattle.std.specs.List.{flat_map}
use Rattle.ec_sessions.specs.Slots.{Slots, unspent_of, all_unspent}
use Rattle.ec_sessions.specs.declared.slot.Slot.{Slot}
use Rattle.ec_codes.specs.Fields.{word, long, id}
use Rattle.ec_codes.specs.Clerks.{age_field}
use Rattle.ec_stands.specs.declared.table.table.Table.{Table}
use Rattle.ec_stands.specs.declared.table.table.Version.TheVariants.{Two}
use Rattle.ec_stands.specs.OfTable.Codes.{last_first_field, ids_field, slot_fields, slot_form, slot_code, slots_field, place_spell, places_field, state_fields, state_code, new_table, table_code}

ids_len : (os : List ℕ) → length (flat_map id.spell os) ≡ 4 * length os
unfolding id
ids_len [] = refl
ids_len (o ∷ os) = let rest : length (flat_map id.spell os) ≡ 4 * length os = ids_len os in omega (arith, rest)

slot_len : (b : Bool) (sl : Slot) → sl.is_open ≡ b → length (slot_code.spell (Some sl)) ≤ 42 + 4 * length sl.unspent
unfolding slot_code slot_form slot_fields last_first_field ids_field word long age_field
slot_len true sl e = rw e (omega (arith, ids_len sl.unspent))
slot_len false sl e = rw e (omega (arith, ids_len sl.unspent))

one_len : (s : Option Slot) → length (slot_code.spell s) ≤ 42 + 4 * length (unspent_of s)
unfolding slot_code slot_form
one_len None = omega arith
one_len (Some sl) = slot_len sl.is_open sl refl

slots_len : (slots : Slots) → length (flat_map slot_code.spell slots) ≤ 42 * length slots + 4 * length (all_unspent slots)
slots_len [] = omega arith
slots_len (s ∷ slots) =
    let rest : length (flat_map slot_code.spell slots) ≤ 42 * length slots + 4 * length (all_unspent slots) = slots_len slots in
    omega (arith, rest, one_len s, length-append (slot_code.spell s) (flat_map slot_code.spell slots), length-append (unspent_of s) (all_unspent slots))

places_len : (places : List (ℕ × ℕ)) → length (flat_map place_spell places) ≡ 8 * length places
unfolding place_spell id word
places_len [] = refl
places_len (p ∷ places) = let rest : length (flat_map place_spell places) ≡ 8 * length places = places_len places in omega (arith, rest)

-- of sixteen clerks, and of 1,024 live objects and unspent ids
abbrev pub max_state_code : ℕ
max_state_code = 8888

pub state_len : (most : ℕ) (t : Table) → length t.slots ≤ 16 → length t.places + length (all_unspent t.slots) ≤ 1024 → length ((state_code most).spell t) ≤ max_state_code
unfolding state_code state_fields slots_field places_field word long
state_len most t few ids =
    omega (arith, few, ids, slots_len t.slots, places_len t.places, length-append (flat_map slot_code.spell t.slots) ((places_field most).spell t.places))

-- a table of version 2: a byte 2, a length and such a state
abbrev pub max_table_code : ℕ
max_table_code = max_state_code + 5

pub table_len : (most : ℕ) (t : Table) → length t.slots ≤ 16 → length t.places + length (all_unspent t.slots) ≤ 1024 → length ((table_code most).spell (Two, t)) ≤ max_table_code
unfolding table_code new_table word
table_len most t few ids = omega (arith, state_len most t few ids)
