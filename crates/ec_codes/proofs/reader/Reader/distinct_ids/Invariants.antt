use Rattle.std.proofs.Common.{◌≡◌, ◌-◌, []}
use Rattle.ec_codes.specs.Formats.{rows_read}
use Rattle.ec_codes.specs.Fields.{id_but}
use Rattle.ec_codes.proofs.reader.Reader.distinct_ids.Given as goal

abbrev pub invariant-loop : goal.invariant-loop
invariant-loop l =
    (rows_read id_but (l.count - l.counter) l.ids.items l.fn.self.bytes.now l.self.at ≡ rows_read id_but l.count [] l.fn.self.bytes.now l.fn.self.at)
    × (l.self.bytes.now ≡ l.fn.self.bytes.now)
