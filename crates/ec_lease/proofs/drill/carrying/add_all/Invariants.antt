use Rattle.std.proofs.Common.{◌≡◌, ◌++◌}
use Rattle.ec_lease.proofs.drill.carrying.add_all.Given as goal

abbrev pub invariant-adding : goal.invariant-adding
invariant-adding l = l.piece.items ≡ l.fn.piece.items ++ l.yielded
