-- Records whose code is within the limits.
use Rattle.std.specs.Prelude.{◌≡◌, ◌+◌, ◌*◌, ℕ, Bool, true, ◌&&◌, length, Result, Ok, Err}
use Rattle.std.specs.List.{list_all}
use Rattle.ec_volume.specs.Update.{is_sound}
use Rattle.ec_sessions.specs.Limits.{max_batch_ops}
use Rattle.ec_codes.specs.Lengths.{max_update_code}
use Rattle.ec_codes.specs.declared.fault.CodeFault.{CodeFault}
use Rattle.ec_codes.specs.declared.fault.CodeFault.TheVariants as fault
use Rattle.ec_durable.specs.declared.record.Record.{Record}
use Rattle.ec_durable.specs.declared.record.Record.TheVariants.{Batch}
use Rattle.ec_durable.specs.Codes.{is_op_count}

-- a batch has from 1 to 64 operations, each with a sound update
abbrev pub is_sound_record : Record → Bool
is_sound_record (Batch c s b ops) = is_op_count (length ops) && list_all (λ op. is_sound op.1) ops
is_sound_record _ = true

-- of a batch: form, clerk, session, batch and count before the operations, each with its number and its update
abbrev pub max_record_code : ℕ
max_record_code = 19 + max_batch_ops * (8 + max_update_code)

-- what a function answered is this, unless memory ran out
abbrev pub ReadsRecord : Result Record CodeFault → Result Record CodeFault → Type 0
ReadsRecord (Err fault.NoMemory) r = Unit {0}
ReadsRecord (Err (fault.Short p)) r = r ≡ Err (fault.Short p)
ReadsRecord (Err (fault.Field p)) r = r ≡ Err (fault.Field p)
ReadsRecord (Ok m) r = r ≡ Ok m
