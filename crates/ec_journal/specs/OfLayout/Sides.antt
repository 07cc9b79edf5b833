-- The two sides of a disk, and the select byte.
use Rattle.std.specs.Prelude.{ℕ}
use Rattle.ec_journal.specs.declared.layout.side.Side.{Side}
use Rattle.ec_journal.specs.declared.layout.side.Side.TheVariants as side

-- a first word of 8 bytes, the most objects in 4, the select byte, the format's 3 bytes
abbrev pub head_bytes : ℕ
head_bytes = 16

abbrev pub select_at : ℕ
select_at = 12

-- a journal and a table
abbrev pub side_bytes : ℕ
side_bytes = 2162688

-- twice the most objects that a volume may have
abbrev pub slot_count : ℕ
slot_count = 2048

abbrev pub other : Side → Side
other side.Even = side.Odd
other side.Odd = side.Even

abbrev pub journals_at : ℕ
journals_at = 4096

-- the select byte that a checkpoint writes
abbrev pub select_byte : Side → ℕ
select_byte side.Even = 0
select_byte side.Odd = 1
