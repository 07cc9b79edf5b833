-- The limits of sessions, of their batches and of the ids that they are granted.
use Rattle.std.specs.Prelude.{ℕ}

-- so many batches may be under way, counted from the window's `low` on
abbrev pub window_size : ℕ
window_size = 8

abbrev pub max_batch_ops : ℕ
max_batch_ops = 64

abbrev pub ids_per_grant : ℕ
ids_per_grant = 16

-- the last grant of ids may begin here: the id behind it is still a u32
abbrev pub last_first_id : ℕ
last_first_id = 4294967279

-- counts of a u32 stop here: grants of ids, and the rounds of a start
abbrev pub last_grants : ℕ
last_grants = 4294967295

abbrev pub last_round : ℕ
last_round = 4294967295
