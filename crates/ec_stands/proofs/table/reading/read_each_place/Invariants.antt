use Rattle.std.proofs.Common.{◌≡◌, ◌-◌, []}
use Rattle.ec_codes.specs.Formats.{rows_read}
use Rattle.ec_stands.specs.OfTable.Codes.{place_after}
use Rattle.ec_stands.proofs.table.reading.read_each_place.Given as goal

abbrev pub invariant-loop : goal.invariant-loop
invariant-loop l =
    (rows_read (place_after l.max_objects) (l.count - l.counter) l.places.items l.fn.reader.bytes.now l.reader.at ≡ rows_read (place_after l.max_objects) l.count [] l.fn.reader.bytes.now l.fn.reader.at)
    × (l.reader.bytes.now ≡ l.fn.reader.bytes.now)
