use Rattle.ec_log.specs.OfChains.Chains.{AreKept}
use Rattle.ec_log.proofs.chains.chains.unlink_above.Given as goal

abbrev pub invariant-each : goal.invariant-each
invariant-each l = AreKept l.held l.fn.chains l.chains
