use Rattle.std.proofs.Common.{◌≡◌, ℕ, List, ◌++◌, length, map}
use Rattle.ec_script.specs.Lines.{lines_of}
use Rattle.ec_lease.specs.OfDrill.Script.{AreRead}
use Rattle.ec_lease.specs.OfDrill.Lines.{read_of}
use Rattle.ec_lease.proofs.drill.script.read_script.Given as goal

abbrev pub invariant-lines : goal.invariant-lines
invariant-lines l = (done : List (List ℕ)) × (lines_of l.script ≡ done ++ lines_of l.ahead) × AreRead l.most done (map read_of l.lines.items)

abbrev pub decreases-lines : goal.decreases-lines
decreases-lines l = length l.ahead
