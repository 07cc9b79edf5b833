-- The codes of records: a byte for the form, and then its fields in order.
use Rattle.std.specs.Prelude.{◌==◌, ℕ, Bool, ◌&&◌, if◌then◌else◌, nat_lt, nat_le, List, length, Option, None, Some, Result, Ok, Err}
use Rattle.ec_base.specs.declared.ids.Age.{Age}
use Rattle.ec_volume.specs.declared.update.Update.{Update}
use Rattle.ec_sessions.specs.Limits.{max_batch_ops}
use Rattle.ec_codes.specs.Formats.{Read, Format, byte, such, then_by, list, variant, nothing, tagged}
use Rattle.ec_codes.specs.Fields.{word, long, id}
use Rattle.ec_codes.specs.Clerks.{clerk_field, age_field}
use Rattle.ec_codes.specs.Updates.{update_code}
use Rattle.ec_codes.specs.declared.fault.CodeFault.{CodeFault}
use Rattle.ec_codes.specs.declared.fault.CodeFault.TheVariants as fault
use Rattle.ec_durable.specs.declared.record.Record.{Record}
use Rattle.ec_durable.specs.declared.record.Record.TheVariants.{Batch, Open, End, Ids, Epoch}

abbrev pub is_op_count : ℕ → Bool
is_op_count n = nat_le 1 n && nat_le n max_batch_ops

-- The fields of the forms.

-- an operation and its update
unfoldable pub op_fields : Format (ℕ × Update)
op_fields = then_by long (λ op. update_code)

-- count, and so often an operation
unfoldable pub ops_field : Format (List (ℕ × Update))
ops_field = list (such is_op_count byte) op_fields.spell (λ before. op_fields)

-- clerk, session, batch, operations
unfoldable pub batch_fields : Format (ℕ × (ℕ × (ℕ × List (ℕ × Update))))
batch_fields = then_by clerk_field (λ c. then_by long (λ s. then_by long (λ b. ops_field)))

-- clerk, age, session
unfoldable pub open_fields : Format (ℕ × (Age × ℕ))
open_fields = then_by clerk_field (λ c. then_by age_field (λ age. long))

-- clerk, session
unfoldable pub end_fields : Format (ℕ × ℕ)
end_fields = then_by clerk_field (λ c. long)

-- clerk, session, got, first
unfoldable pub ids_fields : Format (ℕ × (ℕ × (ℕ × ℕ)))
ids_fields = then_by clerk_field (λ c. then_by long (λ s. then_by word (λ got. id)))

-- The forms of a record, by the tag.

abbrev pub tag : Record → ℕ
tag (Batch c s b ops) = 1
tag (Open c age s) = 2
tag (End c s) = 3
tag (Ids c s got first) = 4
tag (Epoch e) = 5

abbrev pub is_tag : ℕ → Bool
is_tag t = nat_le 1 t && nat_le t 5

abbrev pub batched : Record → Option (ℕ × (ℕ × (ℕ × List (ℕ × Update))))
batched (Batch c s b ops) = Some (c, (s, (b, ops)))
batched _ = None

abbrev pub to_batch : ℕ × (ℕ × (ℕ × List (ℕ × Update))) → Record
to_batch p = Batch p.0 p.1.0 p.1.1.0 p.1.1.1

abbrev pub opened : Record → Option (ℕ × (Age × ℕ))
opened (Open c age s) = Some (c, (age, s))
opened _ = None

abbrev pub to_open : ℕ × (Age × ℕ) → Record
to_open p = Open p.0 p.1.0 p.1.1

abbrev pub ended : Record → Option (ℕ × ℕ)
ended (End c s) = Some (c, s)
ended _ = None

abbrev pub to_end : ℕ × ℕ → Record
to_end p = End p.0 p.1

abbrev pub granted : Record → Option (ℕ × (ℕ × (ℕ × ℕ)))
granted (Ids c s got first) = Some (c, (s, (got, first)))
granted _ = None

abbrev pub to_ids : ℕ × (ℕ × (ℕ × ℕ)) → Record
to_ids p = Ids p.0 p.1.0 p.1.1.0 p.1.1.1

abbrev pub begun : Record → Option ℕ
begun (Epoch e) = Some e
begun _ = None

abbrev pub to_epoch : ℕ → Record
to_epoch e = Epoch e

unfoldable pub form : ℕ → Format Record
form t =
    if t == 1 then variant batched to_batch batch_fields
    else if t == 2 then variant opened to_open open_fields
    else if t == 3 then variant ended to_end end_fields
    else if t == 4 then variant granted to_ids ids_fields
    else if t == 5 then variant begun to_epoch long
    else nothing

unfoldable pub record_code : Format Record
record_code = tagged is_tag tag form

-- What bytes say.

-- nothing may stand behind the fields
abbrev pub whole : ℕ → Read Record → Result Record CodeFault
whole len (Err e) = Err e
whole len (Ok x) = if nat_lt x.1 len then Err (fault.Field x.1) else Ok x.0

-- the record of these bytes, or the first fault from the left
unfoldable pub said : List ℕ → Result Record CodeFault
said bytes = whole (length bytes) (record_code.read bytes 0)
