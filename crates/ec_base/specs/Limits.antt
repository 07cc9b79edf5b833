-- The limits of names, paths, clerks and counters.
use Rattle.std.specs.Prelude.{ℕ, ◌^◌, ◌-◌}

abbrev pub max_name_bytes : ℕ
max_name_bytes = 64

abbrev pub max_path_names : ℕ
max_path_names = 16

-- clerks have the numbers 0 to 15
abbrev pub clerk_count : ℕ
clerk_count = 16

-- a counter stops here
abbrev pub last_counter : ℕ
last_counter = 2 ^ 62

-- the last value of a real adapter's count
abbrev pub last_count : ℕ
last_count = 2 ^ 64 - 1
