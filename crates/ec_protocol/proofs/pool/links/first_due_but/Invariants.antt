use Rattle.std.proofs.Common.{◌≡◌, drop, not, ◌&&◌}
use Rattle.ec_base.specs.Tables.{at, first}
use Rattle.ec_protocol.specs.OfPool.Goings.{going, is_kept_from}
use Rattle.ec_protocol.specs.OfPool.Insides.{passes}
use Rattle.ec_protocol.proofs.pool.links.first_due_but.Given as goal

abbrev pub invariant-loop-number : goal.invariant-loop-number
invariant-loop-number l =
    first (λ p. passes l.cut l.server_is_running p.1 && not (is_kept_from l.held (going (at p.0 l.kept.entries)))) l.pending
    ≡ first (λ p. passes l.cut l.server_is_running p.1 && not (is_kept_from l.held (going (at p.0 l.kept.entries)))) (drop l.number-index l.pending)
