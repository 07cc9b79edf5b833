use Rattle.std.proofs.Common.{◌≡◌, [], length}
use Rattle.ec_script.specs.Lines.{lines_of}
use Rattle.ec_echo.specs.Soak.{last_line}
use Rattle.ec_echo.proofs.soaking.last_line.Given as goal

abbrev pub invariant-lines : goal.invariant-lines
invariant-lines l = last_line l.last (lines_of l.ahead) ≡ last_line [] (lines_of l.transcript)

abbrev pub decreases-lines : goal.decreases-lines
decreases-lines l = length l.ahead
