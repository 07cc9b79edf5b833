-- The limit of a transcript.
use Rattle.std.specs.Prelude.{ℕ}

-- the greatest number of bytes
abbrev pub max_transcript_bytes : ℕ
max_transcript_bytes = 16777216
