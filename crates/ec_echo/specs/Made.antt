-- Scripts that are made.
use Rattle.std.specs.Prelude.{ℕ}

-- `make` and `soak` make scripts of so many lines
abbrev pub made_lines : ℕ
made_lines = 2000
