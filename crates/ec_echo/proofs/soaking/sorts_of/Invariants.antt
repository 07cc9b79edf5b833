use Rattle.std.proofs.Common.{◌≡◌, ℕ, List, ◌++◌, length}
use Rattle.ec_script.specs.Lines.{lines_of}
use Rattle.ec_echo.specs.Soak.{AreSorts}
use Rattle.ec_echo.proofs.soaking.sorts_of.Given as goal

abbrev pub invariant-lines : goal.invariant-lines
invariant-lines l = (done : List (List ℕ)) × (lines_of l.transcript ≡ done ++ lines_of l.ahead) × AreSorts done l.sorts.items

abbrev pub decreases-lines : goal.decreases-lines
decreases-lines l = length l.ahead
