use Rattle.std.proofs.Common.{subst, length, ◌≤◌}
use Rattle.ec_log.proofs.OfChains.Chained.{chain-left}
use Rattle.ec_log.proofs.chains.chain.Chain.leave.Goals as goal

pub invariant_of-self : goal.invariant_of-self
invariant_of-self c =
    chain-left c.self.inside.gone c.left-count.result c.self.inside.ops.items c.args.self.now c.self.invariant c.self.view_is
    (subst (λ l. c.left-count.result ≤ length l) c.ops.ensures.value c.left-count.ensures.within)
