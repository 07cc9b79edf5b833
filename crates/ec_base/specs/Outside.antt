-- What sources and sinks do to the bytes that they tell and to their counts of faults.
use Rattle.std.specs.Prelude.{◌==◌, ℕ, ◌+◌, ◌≤◌, if◌then◌else◌}
use Rattle.ec_base.specs.Limits.{last_count}

-- one more, in a u64 that stops at its last value
abbrev pub one_more : ℕ → ℕ
one_more n = if n == last_count then n else n + 1

-- a count has risen, or stands at the last value that a real adapter's count can have
abbrev pub Rose : ℕ → ℕ → Type 0
Rose before now = one_more before ≤ now
