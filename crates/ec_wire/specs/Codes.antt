-- The codes of messages: a byte for the kind, and then the fields in order.
use Rattle.std.specs.Prelude.{◌==◌, ℕ, Bool, true, ◌&&◌, ◌||◌, if◌then◌else◌, nat_lt, nat_le, List, [], ◌∷◌, ◌++◌, length, get_or, Option, None, Some, Result, Ok, Err}
use Rattle.ec_base.specs.Limits.{clerk_count}
use Rattle.ec_base.specs.Holds.{rank}
use Rattle.ec_base.specs.declared.ids.Age.{Age}
use Rattle.ec_base.specs.declared.ids.Hold.{Hold}
use Rattle.ec_base.specs.declared.ids.Hold.TheVariants as hold
use Rattle.ec_volume.specs.declared.image.Image.{Image}
use Rattle.ec_volume.specs.declared.update.Update.{Update}
use Rattle.ec_codes.specs.Formats.{Read, Format, byte, such, then_by, standing, list, variant, nothing, tagged}
use Rattle.ec_codes.specs.Fields.{word, long, id}
use Rattle.ec_codes.specs.Updates.{update_code}
use Rattle.ec_codes.specs.Images.{image_code}
use Rattle.ec_codes.specs.declared.fault.CodeFault.{CodeFault}
use Rattle.ec_codes.specs.declared.fault.CodeFault.TheVariants as code
use Rattle.ec_wire.specs.declared.fault.WireFault.{WireFault}
use Rattle.ec_wire.specs.declared.fault.WireFault.TheVariants as fault
use Rattle.ec_wire.specs.declared.msg.Msg.{Msg}
use Rattle.ec_wire.specs.declared.msg.Msg.TheVariants.{Hello, Want, Back, Flush, Room, Claim, Bye, Opened, Grant, Recall, Kept, Ids, NoRoom, Ended, Restarted, OldBoot}
use Rattle.ec_wire.specs.Messages.{kind, kind_byte, is_held_mode, is_lowered_mode}
use Rattle.ec_codes.specs.Clerks.{age_of, age_parts}

-- The fields.

unfoldable pub clerk_field : Format ℕ
clerk_field = such (λ n. nat_lt n clerk_count) byte

-- boot and round
unfoldable pub age_field : Format Age
age_field = standing age_parts (λ a. true) age_of (then_by long (λ boot. word))

abbrev pub held_of : ℕ → Option Hold
held_of n = if n == 1 then Some hold.Read else if n == 2 then Some hold.Write else None

-- a mode that a token has: 1 Read, 2 Write
unfoldable pub held_field : Format Hold
held_field = standing rank is_held_mode held_of byte

abbrev pub lowered_of : ℕ → Option Hold
lowered_of n = if n == 0 then Some hold.Free else if n == 1 then Some hold.Read else None

-- a mode that a token is lowered to: 0 Free, 1 Read
unfoldable pub lowered_field : Format Hold
lowered_field = standing rank is_lowered_mode lowered_of byte

abbrev pub is_first : ℕ → Bool
is_first x = nat_le x 4294967279

-- the first of sixteen ids
unfoldable pub first_field : Format ℕ
first_field = such is_first id

abbrev pub last_of : {X : Type 0} → List X → Option X
last_of [] = None
last_of (x ∷ []) = Some x
last_of (x ∷ y ∷ xs) = last_of (y ∷ xs)

abbrev pub is_over : {X : Type 0} → Option (ℕ × X) → ℕ → Bool
is_over None n = true
is_over (Some e) n = nat_lt e.0 n

-- a number above the last one of the rows before, and what stands beside it
abbrev pub row_after : {X : Type 0} → Format ℕ → Format X → List (ℕ × X) → Format (ℕ × X)
row_after K V before = then_by (such (is_over (last_of before)) K) (λ n. V)

abbrev pub row_spell : {X : Type 0} → Format ℕ → Format X → ℕ × X → List ℕ
row_spell K V e = K.spell e.0 ++ V.spell e.1

unfoldable pub op_after : List (ℕ × Update) → Format (ℕ × Update)
op_after before = row_after long update_code before

unfoldable pub op_spell : ℕ × Update → List ℕ
op_spell e = row_spell long update_code e

abbrev pub is_op_count : ℕ → Bool
is_op_count n = nat_le 1 n && nat_le n 64

-- operations, by rising numbers
unfoldable pub ops_field : Format (List (ℕ × Update))
ops_field = list (such is_op_count byte) op_spell op_after

unfoldable pub token_after : List (ℕ × Hold) → Format (ℕ × Hold)
token_after before = row_after id held_field before

unfoldable pub token_spell : ℕ × Hold → List ℕ
token_spell e = row_spell id held_field e

-- objects by rising ids, with the modes of their tokens
unfoldable pub tokens_field : Format (List (ℕ × Hold))
tokens_field = list word token_spell token_after

-- The fields of the kinds.

-- clerk, age
unfoldable pub hello_fields : Format (ℕ × Age)
hello_fields = then_by clerk_field (λ c. age_field)

-- session, epoch, obj, hold, last
unfoldable pub want_fields : Format (ℕ × (ℕ × (ℕ × (Hold × ℕ))))
want_fields = then_by long (λ s. then_by long (λ e. then_by id (λ x. then_by held_field (λ h. long))))

-- session, epoch, obj, number, hold
unfoldable pub back_fields : Format (ℕ × (ℕ × (ℕ × (ℕ × Hold))))
back_fields = then_by long (λ s. then_by long (λ e. then_by id (λ x. then_by long (λ n. lowered_field))))

-- session, epoch, batch, count, and so often operation and update
unfoldable pub flush_fields : Format (ℕ × (ℕ × (ℕ × List (ℕ × Update))))
flush_fields = then_by long (λ s. then_by long (λ e. then_by long (λ b. ops_field)))

-- session, epoch, got, ask
unfoldable pub room_fields : Format (ℕ × (ℕ × (ℕ × ℕ)))
room_fields = then_by long (λ s. then_by long (λ e. then_by word (λ got. long)))

-- session, epoch, count, and so often obj and hold
unfoldable pub claim_fields : Format (ℕ × (ℕ × List (ℕ × Hold)))
claim_fields = then_by long (λ s. then_by long (λ e. tokens_field))

-- session, epoch
unfoldable pub bye_fields : Format (ℕ × ℕ)
bye_fields = then_by long (λ s. long)

-- age, session, epoch
unfoldable pub opened_fields : Format (Age × (ℕ × ℕ))
opened_fields = then_by age_field (λ age. then_by long (λ s. long))

-- session, epoch, obj, number, hold, image
unfoldable pub grant_fields : Format (ℕ × (ℕ × (ℕ × (ℕ × (Hold × Image)))))
grant_fields = then_by long (λ s. then_by long (λ e. then_by id (λ x. then_by long (λ n. then_by held_field (λ h. image_code)))))

-- session, epoch, obj, number, hold
unfoldable pub recall_fields : Format (ℕ × (ℕ × (ℕ × (ℕ × Hold))))
recall_fields = then_by long (λ s. then_by long (λ e. then_by id (λ x. then_by long (λ n. lowered_field))))

-- session, epoch, batch
unfoldable pub kept_fields : Format (ℕ × (ℕ × ℕ))
kept_fields = then_by long (λ s. then_by long (λ e. long))

-- session, epoch, got, number, first obj
unfoldable pub ids_fields : Format (ℕ × (ℕ × (ℕ × (ℕ × ℕ))))
ids_fields = then_by long (λ s. then_by long (λ e. then_by word (λ got. then_by long (λ n. first_field))))

-- session, epoch, ask, live, reserved
unfoldable pub no_room_fields : Format (ℕ × (ℕ × (ℕ × (ℕ × ℕ))))
no_room_fields = then_by long (λ s. then_by long (λ e. then_by long (λ ask. then_by word (λ live. word))))

-- session, low, mask
unfoldable pub ended_fields : Format (ℕ × (ℕ × ℕ))
ended_fields = then_by long (λ s. then_by long (λ low. byte))

-- session, epoch
unfoldable pub restarted_fields : Format (ℕ × ℕ)
restarted_fields = then_by long (λ s. long)

-- asked age, greatest age
unfoldable pub old_boot_fields : Format (Age × Age)
old_boot_fields = then_by age_field (λ asked. age_field)

-- The parts of the kinds.

abbrev pub hello_parts : Msg → Option (ℕ × Age)
hello_parts (Hello c age) = Some (c, age)
hello_parts _ = None

abbrev pub to_hello : (ℕ × Age) → Msg
to_hello p = Hello p.0 p.1

abbrev pub want_parts : Msg → Option (ℕ × (ℕ × (ℕ × (Hold × ℕ))))
want_parts (Want s e x h last) = Some (s, (e, (x, (h, last))))
want_parts _ = None

abbrev pub to_want : (ℕ × (ℕ × (ℕ × (Hold × ℕ)))) → Msg
to_want p = Want p.0 p.1.0 p.1.1.0 p.1.1.1.0 p.1.1.1.1

abbrev pub back_parts : Msg → Option (ℕ × (ℕ × (ℕ × (ℕ × Hold))))
back_parts (Back s e x n h) = Some (s, (e, (x, (n, h))))
back_parts _ = None

abbrev pub to_back : (ℕ × (ℕ × (ℕ × (ℕ × Hold)))) → Msg
to_back p = Back p.0 p.1.0 p.1.1.0 p.1.1.1.0 p.1.1.1.1

abbrev pub flush_parts : Msg → Option (ℕ × (ℕ × (ℕ × List (ℕ × Update))))
flush_parts (Flush s e b ops) = Some (s, (e, (b, ops)))
flush_parts _ = None

abbrev pub to_flush : (ℕ × (ℕ × (ℕ × List (ℕ × Update)))) → Msg
to_flush p = Flush p.0 p.1.0 p.1.1.0 p.1.1.1

abbrev pub room_parts : Msg → Option (ℕ × (ℕ × (ℕ × ℕ)))
room_parts (Room s e got ask) = Some (s, (e, (got, ask)))
room_parts _ = None

abbrev pub to_room : (ℕ × (ℕ × (ℕ × ℕ))) → Msg
to_room p = Room p.0 p.1.0 p.1.1.0 p.1.1.1

abbrev pub claim_parts : Msg → Option (ℕ × (ℕ × List (ℕ × Hold)))
claim_parts (Claim s e tokens) = Some (s, (e, tokens))
claim_parts _ = None

abbrev pub to_claim : (ℕ × (ℕ × List (ℕ × Hold))) → Msg
to_claim p = Claim p.0 p.1.0 p.1.1

abbrev pub bye_parts : Msg → Option (ℕ × ℕ)
bye_parts (Bye s e) = Some (s, e)
bye_parts _ = None

abbrev pub to_bye : (ℕ × ℕ) → Msg
to_bye p = Bye p.0 p.1

abbrev pub opened_parts : Msg → Option (Age × (ℕ × ℕ))
opened_parts (Opened age s e) = Some (age, (s, e))
opened_parts _ = None

abbrev pub to_opened : (Age × (ℕ × ℕ)) → Msg
to_opened p = Opened p.0 p.1.0 p.1.1

abbrev pub grant_parts : Msg → Option (ℕ × (ℕ × (ℕ × (ℕ × (Hold × Image)))))
grant_parts (Grant s e x n h image) = Some (s, (e, (x, (n, (h, image)))))
grant_parts _ = None

abbrev pub to_grant : (ℕ × (ℕ × (ℕ × (ℕ × (Hold × Image))))) → Msg
to_grant p = Grant p.0 p.1.0 p.1.1.0 p.1.1.1.0 p.1.1.1.1.0 p.1.1.1.1.1

abbrev pub recall_parts : Msg → Option (ℕ × (ℕ × (ℕ × (ℕ × Hold))))
recall_parts (Recall s e x n h) = Some (s, (e, (x, (n, h))))
recall_parts _ = None

abbrev pub to_recall : (ℕ × (ℕ × (ℕ × (ℕ × Hold)))) → Msg
to_recall p = Recall p.0 p.1.0 p.1.1.0 p.1.1.1.0 p.1.1.1.1

abbrev pub kept_parts : Msg → Option (ℕ × (ℕ × ℕ))
kept_parts (Kept s e b) = Some (s, (e, b))
kept_parts _ = None

abbrev pub to_kept : (ℕ × (ℕ × ℕ)) → Msg
to_kept p = Kept p.0 p.1.0 p.1.1

abbrev pub ids_parts : Msg → Option (ℕ × (ℕ × (ℕ × (ℕ × ℕ))))
ids_parts (Ids s e got n x) = Some (s, (e, (got, (n, x))))
ids_parts _ = None

abbrev pub to_ids : (ℕ × (ℕ × (ℕ × (ℕ × ℕ)))) → Msg
to_ids p = Ids p.0 p.1.0 p.1.1.0 p.1.1.1.0 p.1.1.1.1

abbrev pub no_room_parts : Msg → Option (ℕ × (ℕ × (ℕ × (ℕ × ℕ))))
no_room_parts (NoRoom s e ask live reserved) = Some (s, (e, (ask, (live, reserved))))
no_room_parts _ = None

abbrev pub to_no_room : (ℕ × (ℕ × (ℕ × (ℕ × ℕ)))) → Msg
to_no_room p = NoRoom p.0 p.1.0 p.1.1.0 p.1.1.1.0 p.1.1.1.1

abbrev pub ended_parts : Msg → Option (ℕ × (ℕ × ℕ))
ended_parts (Ended s low mask) = Some (s, (low, mask))
ended_parts _ = None

abbrev pub to_ended : (ℕ × (ℕ × ℕ)) → Msg
to_ended p = Ended p.0 p.1.0 p.1.1

abbrev pub restarted_parts : Msg → Option (ℕ × ℕ)
restarted_parts (Restarted s e) = Some (s, e)
restarted_parts _ = None

abbrev pub to_restarted : (ℕ × ℕ) → Msg
to_restarted p = Restarted p.0 p.1

abbrev pub old_boot_parts : Msg → Option (Age × Age)
old_boot_parts (OldBoot asked greatest) = Some (asked, greatest)
old_boot_parts _ = None

abbrev pub to_old_boot : (Age × Age) → Msg
to_old_boot p = OldBoot p.0 p.1

abbrev pub msg_byte : Msg → ℕ
msg_byte m = kind_byte (kind m)

-- 2 to 8 for the server, 65 to 73 for clerks
abbrev pub is_kind_byte : ℕ → Bool
is_kind_byte b = (nat_le 2 b && nat_le b 8) || (nat_le 65 b && nat_le b 73)

-- the fields behind a byte for the kind
unfoldable pub msg_form : ℕ → Format Msg
msg_form b =
    if b == 8 then variant hello_parts to_hello hello_fields
    else if b == 2 then variant want_parts to_want want_fields
    else if b == 3 then variant back_parts to_back back_fields
    else if b == 4 then variant flush_parts to_flush flush_fields
    else if b == 5 then variant room_parts to_room room_fields
    else if b == 6 then variant claim_parts to_claim claim_fields
    else if b == 7 then variant bye_parts to_bye bye_fields
    else if b == 65 then variant opened_parts to_opened opened_fields
    else if b == 66 then variant grant_parts to_grant grant_fields
    else if b == 67 then variant recall_parts to_recall recall_fields
    else if b == 68 then variant kept_parts to_kept kept_fields
    else if b == 69 then variant ids_parts to_ids ids_fields
    else if b == 70 then variant no_room_parts to_no_room no_room_fields
    else if b == 71 then variant ended_parts to_ended ended_fields
    else if b == 72 then variant restarted_parts to_restarted restarted_fields
    else if b == 73 then variant old_boot_parts to_old_boot old_boot_fields
    else nothing

unfoldable pub msg_code : Format Msg
msg_code = tagged is_kind_byte msg_byte msg_form

-- What bytes say.

abbrev pub wire_fault : CodeFault → WireFault
wire_fault (code.Short p) = fault.Short p
wire_fault (code.Field p) = fault.Field p
wire_fault code.NoMemory = fault.NoMemory

-- nothing may stand behind the fields
abbrev pub whole : ℕ → Read Msg → Result Msg WireFault
whole len (Err e) = Err (wire_fault e)
whole len (Ok x) = if nat_lt x.1 len then Err (fault.Trailing x.1) else Ok x.0

-- the message of these bytes, or the first fault from the left
unfoldable pub said : List ℕ → Result Msg WireFault
said bytes =
    if nat_lt 0 (length bytes) then
    (if is_kind_byte (get_or bytes 0 0) then whole (length bytes) ((msg_form (get_or bytes 0 0)).read bytes 1) else Err (fault.Kind (get_or bytes 0 0)))
    else Err (fault.Short 0)
