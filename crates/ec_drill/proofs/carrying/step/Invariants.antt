use Rattle.std.proofs.Common.{◌≡◌, ◌++◌}
use Rattle.ec_drill.proofs.carrying.step.Given as goal

abbrev pub invariant-adding : goal.invariant-adding
invariant-adding g l = l.piece.items ≡ l.fn.piece.items ++ l.yielded
