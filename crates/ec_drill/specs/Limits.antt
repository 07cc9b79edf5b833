-- The limits of a drill.
use Rattle.std.specs.Prelude.{ℕ}

-- the greatest number of bytes of a script, and of lines
abbrev pub most_bytes : ℕ
most_bytes = 1048576

abbrev pub most_lines : ℕ
most_lines = 65536

-- the greatest number of objects, where no other is given
abbrev pub most_objects : ℕ
most_objects = 1024
