use Rattle.std.proofs.Common.{◌≡◌, ◌-◌, []}
use Rattle.ec_codes.specs.Formats.{rows_read}
use Rattle.ec_codes.specs.Updates.{step_fields}
use Rattle.ec_codes.proofs.reader.Reader.steps.Given as goal

abbrev pub invariant-loop : goal.invariant-loop
invariant-loop l =
    (rows_read (step_fields l.others) (l.count - l.counter) l.up.items l.fn.self.bytes.now l.self.at ≡ rows_read (step_fields l.others) l.count [] l.fn.self.bytes.now l.fn.self.at)
    × (l.self.bytes.now ≡ l.fn.self.bytes.now)
