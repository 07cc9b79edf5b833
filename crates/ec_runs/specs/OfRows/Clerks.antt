-- The clerks of the transcripts.
use Rattle.std.specs.Prelude.{ℕ}

abbrev pub A : ℕ
A = 0

abbrev pub B : ℕ
B = 1
