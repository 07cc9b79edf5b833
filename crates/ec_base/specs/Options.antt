-- Small functions on options.
use Rattle.std.specs.Prelude.{ℕ, Option, None, Some}

abbrev pub or_zero : Option ℕ → ℕ
or_zero None = 0
or_zero (Some o) = o
