-- No public clause cites this module: it says what the private readers of lines give.
use Rattle.std.specs.Prelude.{◌≤◌, ◌*◌, ℕ, if◌then◌else◌, List, [], ◌∷◌, ◌++◌, ⊤}
use Rattle.ec_volume.specs.Update.{member}
use Rattle.ec_lease_machine.specs.Drill.{LeaseRead, reads, unfit}
use Rattle.ec_lease_machine.specs.declared.script.LeaseLine.{LeaseLine}
use Rattle.ec_lease_machine.specs.declared.script.LeaseLine.TheVariants.{Tick, Skew}
use Rattle.ec_lease.specs.Steps.{most_tick}
use Rattle.ec_lease.specs.OfDrill.Script.{machine_lease}
use Rattle.ec_lease.specs.declared.drill.script.ScriptLine.{ScriptLine}
use Rattle.ec_lease.specs.declared.drill.script.ScriptLine.TheVariants as own

abbrev pub read_of : ScriptLine → LeaseRead
read_of (own.Fits l column) = reads (machine_lease l) column
read_of (own.Unfit column) = unfit column

-- the numbers that were seen, and then those of a list, each once
abbrev pub each_noted : List ℕ → List ℕ → List ℕ
each_noted seen [] = seen
each_noted seen (x ∷ xs) = each_noted (if member x seen then seen else seen ++ x ∷ []) xs

-- a tick and a skew are within their bounds
abbrev pub IsTimed : ℕ → LeaseLine → Type 0
IsTimed most (Tick n) = (1 ≤ n) × (n ≤ most_tick)
IsTimed most (Skew c s) = s ≤ 2 * most
IsTimed most _ = ⊤

abbrev pub AreTimed : ℕ → List LeaseRead → Type 0
AreTimed most [] = ⊤
AreTimed most (reads l column ∷ ls) = IsTimed most l × AreTimed most ls
AreTimed most (unfit column ∷ ls) = AreTimed most ls
