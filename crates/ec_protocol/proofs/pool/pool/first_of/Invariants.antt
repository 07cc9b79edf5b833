use Rattle.std.proofs.Common.{◌≡◌}
use Rattle.ec_base.specs.Tables.{first}
use Rattle.ec_protocol.specs.World as machine
use Rattle.ec_protocol.proofs.pool.pool.first_of.Given as goal

abbrev pub invariant-loop-number : goal.invariant-loop-number
invariant-loop-number l = first (machine.is_this l.clerk l.kind l.nth) l.kept.entries ≡ first (machine.is_this l.clerk l.kind l.nth) l.number-iterator
