use Rattle.std.proofs.Common.{◌≡◌, ◌-◌, []}
use Rattle.ec_codes.specs.Formats.{rows_read}
use Rattle.ec_wire.specs.Codes.{token_after}
use Rattle.ec_wire.proofs.fields.token_rows.Given as goal

abbrev pub invariant-loop : goal.invariant-loop
invariant-loop l =
    (rows_read token_after (l.count - l.counter) l.rows.items l.fn.reader.bytes.now l.reader.at ≡ rows_read token_after l.count [] l.fn.reader.bytes.now l.fn.reader.at)
    × (l.reader.bytes.now ≡ l.fn.reader.bytes.now)
