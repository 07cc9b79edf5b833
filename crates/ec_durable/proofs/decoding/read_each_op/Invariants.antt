use Rattle.std.proofs.Common.{◌≡◌, ◌-◌, []}
use Rattle.ec_codes.specs.Formats.{rows_read}
use Rattle.ec_durable.specs.Codes.{op_fields}
use Rattle.ec_durable.proofs.decoding.read_each_op.Given as goal

abbrev pub invariant-loop : goal.invariant-loop
invariant-loop l =
    (rows_read (λ before. op_fields) (l.count - l.counter) l.ops.items l.fn.reader.bytes.now l.reader.at ≡ rows_read (λ before. op_fields) l.count [] l.fn.reader.bytes.now l.fn.reader.at)
    × (l.reader.bytes.now ≡ l.fn.reader.bytes.now)
