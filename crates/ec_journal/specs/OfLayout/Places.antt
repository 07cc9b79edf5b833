-- Where what stands on a disk, in bytes from its first one.
use Rattle.std.specs.Prelude.{◌+◌, ◌*◌, ◌%◌, ◌==◌, ℕ, if◌then◌else◌}
use Rattle.ec_journal.specs.declared.layout.side.Side.{Side}
use Rattle.ec_journal.specs.declared.layout.side.Side.TheVariants as side

abbrev pub journal_bytes : ℕ
journal_bytes = 2097152

abbrev pub table_bytes : ℕ
table_bytes = 65536

abbrev pub slot_bytes : ℕ
slot_bytes = 65600

abbrev pub journal_at : Side → ℕ
journal_at side.Even = 4096
journal_at side.Odd = 2166784

abbrev pub table_at : Side → ℕ
table_at s = journal_at s + 2097152

abbrev pub slot_at : ℕ → ℕ
slot_at k = 4329472 + k * 65600

-- the side that a select byte picks
abbrev pub side_of : ℕ → Side
side_of b = if b % 2 == 0 then side.Even else side.Odd
