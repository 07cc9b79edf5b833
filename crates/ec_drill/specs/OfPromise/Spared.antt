-- Which entries of a history lose nothing, and which lines of a script make nothing be lost.
use Rattle.std.specs.Prelude.{ℕ, Bool, true, false, ⊤}
use Rattle.ec_history.specs.declared.entry.Entry.{Entry}
use Rattle.ec_history.specs.declared.entry.Entry.TheVariants as entry
use Rattle.ec_protocol.specs.declared.script.Line.{Line}
use Rattle.ec_protocol.specs.declared.script.Line.TheVariants as line

-- the line crashes no clerk and ends no session
abbrev pub spares : Line → Bool
spares (line.Crash c) = false
spares (line.End c) = false
spares _ = true

-- the entry is a call, and no loss
abbrev pub IsNoLoss : ℕ × Entry → Type 0
IsNoLoss (p, entry.Call c b l begun cl a op) = ⊤
IsNoLoss (p, entry.Loss c b ns) = ⊥
