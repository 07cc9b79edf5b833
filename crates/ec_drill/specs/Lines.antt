-- No public clause cites this module: it says what the private readers of lines give.
use Rattle.std.specs.Prelude.{◌≡◌, ℕ, if◌then◌else◌, List, [], ◌∷◌, ◌++◌, Option, None, Some}
use Rattle.ec_volume.specs.Update.{member}
use Rattle.ec_protocol.specs.Drill.{Read, reads, unfit}
use Rattle.ec_protocol.specs.World.{Fate, Moving, moving, happen}
use Rattle.ec_protocol.specs.declared.world.Event.{Event}
use Rattle.ec_protocol.specs.declared.world.World.{World}
use Rattle.ec_protocol.specs.declared.world.WorldFault.{WorldFault}
use Rattle.ec_protocol.specs.declared.world.WorldFault.TheVariants as fault
use Rattle.ec_drill.specs.Script.{machine_line}
use Rattle.ec_drill.specs.declared.script.ScriptLine.{ScriptLine}
use Rattle.ec_drill.specs.declared.script.ScriptLine.TheVariants.{Fits, Unfit}

abbrev pub read_of : ScriptLine → Read
read_of (Fits l column) = reads (machine_line l) column
read_of (Unfit column) = unfit column

-- what an event makes of a world, if there is one
abbrev pub happens : Fate → Option Event → World → Moving
happens fate None w = moving w
happens fate (Some e) w = happen fate e w

abbrev pub IsNothing : WorldFault → Type 0
IsNothing f = f ≡ fault.NoSuchMsg

-- the numbers that were seen, and then those of a list, each once
abbrev pub noted : List ℕ → List ℕ → List ℕ
noted seen [] = seen
noted seen (x ∷ xs) = noted (if member x seen then seen else seen ++ x ∷ []) xs
