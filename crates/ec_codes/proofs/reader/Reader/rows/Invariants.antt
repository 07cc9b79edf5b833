use Rattle.std.proofs.Common.{◌≡◌, ◌-◌, []}
use Rattle.std.specs.Prelude.{T}
use Rattle.std.specs.FinMap.{is_sorted}
use Rattle.ec_volume.specs.Entries.{by_bytes}
use Rattle.ec_codes.specs.Formats.{rows_read}
use Rattle.ec_codes.specs.Images.{entry_after}
use Rattle.ec_codes.proofs.reader.Reader.rows.Given as goal

abbrev pub invariant-loop : goal.invariant-loop
invariant-loop l =
    (rows_read entry_after (l.count - l.counter) l.entries.items l.fn.self.bytes.now l.self.at ≡ rows_read entry_after l.count [] l.fn.self.bytes.now l.fn.self.at)
    × (l.self.bytes.now ≡ l.fn.self.bytes.now) × T (is_sorted by_bytes l.entries.items)
