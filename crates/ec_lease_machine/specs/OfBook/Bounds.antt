-- The bounds of clocks and moments.
use Rattle.std.specs.Prelude.{◌+◌, ◌*◌, ◌^◌, ℕ}

-- the greatest length of Leases
abbrev pub most_length : ℕ
most_length = 1000000

-- the server's clock ends here
abbrev pub last_tick : ℕ
last_tick = 2 ^ 62

abbrev pub last_moment : ℕ
last_moment = last_tick + most_length

-- by how much a clock is above its least at most
abbrev pub most_skew : ℕ
most_skew = 2 * most_length
