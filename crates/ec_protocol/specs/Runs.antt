-- Runs of the machine: a script, and all that it shows.
use Rattle.std.specs.Prelude.{◌≡◌, ℕ, List, []}
use Rattle.ec_history.specs.declared.shown.Shown.{Shown}
use Rattle.ec_durable.specs.Durable.{formatted}
use Rattle.ec_protocol.specs.Server.{start}
use Rattle.ec_protocol.specs.World.{new_world}
use Rattle.ec_protocol.specs.Drill.{Read, Fates, drill, run_from, joined}

-- the lines of a script, the fates of its steps, and the lines and the status that they lead to on a disk formatted for so many objects
pub record Run : Type 0 where
  pub lines : List Read
  pub fates : List Fates
  pub max_objects : ℕ
  pub shown : List Shown
  pub status : ℕ

-- the machine shows exactly these lines, and ends with this status
abbrev pub Shows : Run → Type 0
Shows r = drill r.lines r.fates (formatted r.max_objects) ≡ (r.shown, r.status)

-- the same lines, where after each line of the script at most so many messages are delivered
abbrev pub ShowsWithin : ℕ → Run → Type 0
ShowsWithin bound r = joined (run_from bound 1 r.lines r.fates (new_world (start (formatted r.max_objects)).server [])).pieces ≡ r.shown

-- the clerks of the scripts
abbrev pub A : ℕ
A = 0

abbrev pub B : ℕ
B = 1

abbrev pub C : ℕ
C = 2

abbrev pub D : ℕ
D = 3

abbrev pub O : ℕ
O = 14
