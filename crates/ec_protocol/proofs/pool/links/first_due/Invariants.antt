use Rattle.std.proofs.Common.{◌≡◌, drop}
use Rattle.ec_base.specs.Tables.{first}
use Rattle.ec_protocol.specs.OfPool.Insides.{passes}
use Rattle.ec_protocol.proofs.pool.links.first_due.Given as goal

abbrev pub invariant-loop-number : goal.invariant-loop-number
invariant-loop-number l = first (λ p. passes l.cut l.server_is_running p.1) l.pending ≡ first (λ p. passes l.cut l.server_is_running p.1) (drop l.number-index l.pending)
