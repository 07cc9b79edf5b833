-- The bounds of calls.
use Rattle.std.specs.Prelude.{ℕ}

-- bytes that one read asks for
abbrev pub max_read_bytes : ℕ
max_read_bytes = 4096
