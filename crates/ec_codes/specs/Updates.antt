-- The codes of updates: a byte for the form, and then its fields in order.
use Rattle.std.specs.Prelude.{◌==◌, ◌+◌, ℕ, Bool, true, false, not, ◌&&◌, ◌||◌, if◌then◌else◌, nat_le, List, [], ◌∷◌, ◌++◌, length, Option, None, Some}
use Rattle.std.specs.Int.{w16, w32, w64}
use Rattle.ec_volume.specs.Entries.{same_name}
use Rattle.ec_volume.specs.Update.{root, listed, member, ids_of, Above}
use Rattle.ec_volume.specs.declared.image.Kind.{Kind}
use Rattle.ec_volume.specs.declared.image.Kind.TheVariants as kind
use Rattle.ec_volume.specs.declared.update.Update.{Update}
use Rattle.ec_volume.specs.declared.update.Update.TheVariants.{Make, Drop, Move, Put, Len, Mode, Stamp, Order, Shift, Owner}
use Rattle.ec_codes.specs.Formats.{Format, byte, number, such, then_by, text, list, variant, nothing, tagged}
use Rattle.ec_codes.specs.Fields.{id, id_but, kind_field, flag, victim_but, mode_field, name}

-- The fields of the forms.

-- of a Make or a Drop: dir, obj, kind, name
unfoldable pub entry_fields : Format (ℕ × (ℕ × (Kind × List ℕ)))
entry_fields = then_by id (λ dir. then_by (id_but (dir ∷ [])) (λ obj. then_by kind_field (λ k. name)))

-- dir, obj, kind, victim or 0, from, to
unfoldable pub move_fields : Format (ℕ × (ℕ × (Kind × (Option ℕ × (List ℕ × List ℕ)))))
move_fields =
    then_by id (λ dir. then_by (id_but (dir ∷ [])) (λ obj. then_by kind_field (λ k. then_by (victim_but (dir ∷ obj ∷ [])) (λ victim.
    then_by name (λ from. such (λ to. not (same_name from to)) name)))))

-- bytes that a Put may have at this place
abbrev pub is_put_length : ℕ → ℕ → Bool
is_put_length at n = nat_le 1 n && nat_le n 4096 && nat_le (at + n) 65536

-- obj, at, inside, length and bytes
unfoldable pub put_fields : Format (ℕ × (ℕ × (Bool × List ℕ)))
put_fields = then_by id (λ obj. then_by (number w32) (λ at. then_by flag (λ inside. text (such (is_put_length at) (number w16)))))

unfoldable pub len_fields : Format (ℕ × ℕ)
len_fields = then_by id (λ obj. such (λ n. nat_le n 65536) (number w32))

unfoldable pub mode_fields : Format (ℕ × ℕ)
mode_fields = then_by id (λ obj. mode_field)

unfoldable pub stamp_fields : Format (ℕ × ℕ)
stamp_fields = then_by id (λ obj. number w64)

unfoldable pub owner_fields : Format (ℕ × ℕ)
owner_fields = then_by id (λ obj. number w32)

abbrev pub is_order_count : ℕ → Bool
is_order_count n = nat_le 1 n && nat_le n 8

-- count and ids
unfoldable pub order_fields : Format (List ℕ)
order_fields = list (such is_order_count byte) id.spell id_but

-- how many directories lead to `into`: none for a file or to the root, else from the root on
abbrev pub is_way_count : Kind → ℕ → ℕ → Bool
is_way_count kind.File into n = n == 0
is_way_count kind.Dir into n = if into == root then n == 0 else nat_le 1 n && nat_le n 15

-- the first directory is the root
abbrev pub begins_well : Above → ℕ → Bool
begins_well [] o = o == root
begins_well (e ∷ up) o = true

-- a directory on the way, behind those before it, and the name that leads on
unfoldable pub step_fields : List ℕ → Above → Format (ℕ × List ℕ)
step_fields os before = then_by (such (begins_well before) (id_but (os ++ ids_of before))) (λ dir. name)

unfoldable pub step_spell : ℕ × List ℕ → List ℕ
step_spell e = id.spell e.0 ++ name.spell e.1

-- count, so often directory and name; none of the directories is one of these
unfoldable pub way_fields : Kind → ℕ → List ℕ → Format Above
way_fields k into os = list (such (is_way_count k into) byte) step_spell (step_fields os)

-- dir, into, obj, kind, victim or 0, from, to, and the way
unfoldable pub shift_fields : Format (ℕ × (ℕ × (ℕ × (Kind × (Option ℕ × (List ℕ × (List ℕ × Above)))))))
shift_fields =
    then_by id (λ dir. then_by (id_but (dir ∷ [])) (λ into. then_by (id_but (dir ∷ into ∷ [])) (λ obj. then_by kind_field (λ k.
    then_by (victim_but (dir ∷ into ∷ obj ∷ [])) (λ victim. then_by name (λ from. then_by name (λ to.
    way_fields k into (into ∷ obj ∷ listed victim))))))))

-- The forms of an update, by the tag.

abbrev pub tag : Update → ℕ
tag (Make dir n obj k) = 1
tag (Drop dir n obj k) = 2
tag (Move dir from to obj k victim) = 3
tag (Put obj at bytes inside) = 4
tag (Len obj len) = 5
tag (Mode obj mode) = 6
tag (Stamp obj stamp) = 7
tag (Order objs) = 8
tag (Shift dir from into to obj k victim up) = 9
tag (Owner obj owner) = 10

abbrev pub is_tag : ℕ → Bool
is_tag t = nat_le 1 t && nat_le t 10

abbrev pub made : Update → Option (ℕ × (ℕ × (Kind × List ℕ)))
made (Make dir n obj k) = Some (dir, (obj, (k, n)))
made _ = None

abbrev pub dropped : Update → Option (ℕ × (ℕ × (Kind × List ℕ)))
dropped (Drop dir n obj k) = Some (dir, (obj, (k, n)))
dropped _ = None

abbrev pub moved : Update → Option (ℕ × (ℕ × (Kind × (Option ℕ × (List ℕ × List ℕ)))))
moved (Move dir from to obj k victim) = Some (dir, (obj, (k, (victim, (from, to)))))
moved _ = None

abbrev pub put : Update → Option (ℕ × (ℕ × (Bool × List ℕ)))
put (Put obj at bytes inside) = Some (obj, (at, (inside, bytes)))
put _ = None

abbrev pub resized : Update → Option (ℕ × ℕ)
resized (Len obj len) = Some (obj, len)
resized _ = None

abbrev pub with_mode : Update → Option (ℕ × ℕ)
with_mode (Mode obj mode) = Some (obj, mode)
with_mode _ = None

abbrev pub stamped : Update → Option (ℕ × ℕ)
stamped (Stamp obj stamp) = Some (obj, stamp)
stamped _ = None

abbrev pub ordered : Update → Option (List ℕ)
ordered (Order objs) = Some objs
ordered _ = None

abbrev pub shifted : Update → Option (ℕ × (ℕ × (ℕ × (Kind × (Option ℕ × (List ℕ × (List ℕ × Above)))))))
shifted (Shift dir from into to obj k victim up) = Some (dir, (into, (obj, (k, (victim, (from, (to, up)))))))
shifted _ = None

abbrev pub owned : Update → Option (ℕ × ℕ)
owned (Owner obj owner) = Some (obj, owner)
owned _ = None

abbrev pub to_make : (ℕ × (ℕ × (Kind × List ℕ))) → Update
to_make p = Make p.0 p.1.1.1 p.1.0 p.1.1.0

abbrev pub to_drop : (ℕ × (ℕ × (Kind × List ℕ))) → Update
to_drop p = Drop p.0 p.1.1.1 p.1.0 p.1.1.0

abbrev pub to_move : (ℕ × (ℕ × (Kind × (Option ℕ × (List ℕ × List ℕ))))) → Update
to_move p = Move p.0 p.1.1.1.1.0 p.1.1.1.1.1 p.1.0 p.1.1.0 p.1.1.1.0

abbrev pub to_put : (ℕ × (ℕ × (Bool × List ℕ))) → Update
to_put p = Put p.0 p.1.0 p.1.1.1 p.1.1.0

abbrev pub to_len : (ℕ × ℕ) → Update
to_len p = Len p.0 p.1

abbrev pub to_mode : (ℕ × ℕ) → Update
to_mode p = Mode p.0 p.1

abbrev pub to_stamp : (ℕ × ℕ) → Update
to_stamp p = Stamp p.0 p.1

abbrev pub to_order : (List ℕ) → Update
to_order p = Order p

abbrev pub to_shift : (ℕ × (ℕ × (ℕ × (Kind × (Option ℕ × (List ℕ × (List ℕ × Above))))))) → Update
to_shift p = Shift p.0 p.1.1.1.1.1.0 p.1.0 p.1.1.1.1.1.1.0 p.1.1.0 p.1.1.1.0 p.1.1.1.1.0 p.1.1.1.1.1.1.1

abbrev pub to_owner : (ℕ × ℕ) → Update
to_owner p = Owner p.0 p.1

unfoldable pub form : ℕ → Format Update
form t =
    if t == 1 then variant made to_make entry_fields
    else if t == 2 then variant dropped to_drop entry_fields
    else if t == 3 then variant moved to_move move_fields
    else if t == 4 then variant put to_put put_fields
    else if t == 5 then variant resized to_len len_fields
    else if t == 6 then variant with_mode to_mode mode_fields
    else if t == 7 then variant stamped to_stamp stamp_fields
    else if t == 8 then variant ordered to_order order_fields
    else if t == 9 then variant shifted to_shift shift_fields
    else if t == 10 then variant owned to_owner owner_fields
    else nothing

unfoldable pub update_code : Format Update
update_code = tagged is_tag tag form
