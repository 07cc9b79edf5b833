-- What the next call of a disk does.
use Rattle.std.specs.Prelude.{ℕ, Bool, true, false, Option, Some, None, if◌then◌else◌, nat_eq, nat_le}
use Rattle.std.specs.List.{list_any}
use Rattle.std.specs.Option.{option_eq}
use Rattle.ec_base.specs.Outside.{one_more}
use Rattle.ec_disk.specs.Disk.{Counts}
use Rattle.ec_disk.specs.declared.turns.Turns.{Turns}
use Rattle.ec_disk.specs.declared.turns.Turn.{Turn}
use Rattle.ec_disk.specs.declared.turns.Turn.TheVariants as turn

abbrev pub counts_of : Turns → Counts
counts_of t = record { calls = t.calls; faults = t.faults; stops = t.stops; armed = t.armed }

-- the number of the next call, from 1
abbrev pub next_call : Turns → ℕ
next_call t = one_more t.calls

-- a call that is due to stop does so, and else fails where its number is listed
abbrev pub turn_of : Bool → Turns → Turn
turn_of true t = turn.Stops
turn_of false t = if list_any (λ n. nat_eq n (next_call t)) t.fails.items then turn.Fails else turn.Goes

abbrev pub is_due : Option ℕ → Bool
is_due None = false
is_due (Some n) = nat_le n 1

abbrev pub has_stopped : Option ℕ → Bool
has_stopped armed = option_eq nat_eq armed (Some 0)

abbrev pub next_turn : Turns → Turn
next_turn t = turn_of (is_due t.armed) t

abbrev pub next_len_turn : Turns → Turn
next_len_turn t = turn_of (has_stopped t.armed) t

abbrev pub faults_after : Turn → ℕ → ℕ
faults_after turn.Fails n = one_more n
faults_after turn.Goes n = n
faults_after turn.Stops n = n

abbrev pub stops_after : Turn → ℕ → ℕ
stops_after turn.Stops n = one_more n
stops_after turn.Goes n = n
stops_after turn.Fails n = n
