use Rattle.std.proofs.Common.{◌≡◌, ◌-◌, []}
use Rattle.ec_codes.specs.Formats.{rows_read}
use Rattle.ec_stands.specs.OfTable.Codes.{slot_code}
use Rattle.ec_stands.proofs.table.reading.read_each_slot.Given as goal

abbrev pub invariant-loop : goal.invariant-loop
invariant-loop l =
    (rows_read (λ before. slot_code) (l.count - l.counter) l.slots.items l.fn.reader.bytes.now l.reader.at ≡ rows_read (λ before. slot_code) l.count [] l.fn.reader.bytes.now l.fn.reader.at)
    × (l.reader.bytes.now ≡ l.fn.reader.bytes.now)
