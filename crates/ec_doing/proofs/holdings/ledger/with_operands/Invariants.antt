use Rattle.std.proofs.Common.{◌≡◌, ◌++◌, drop}
use Rattle.ec_base.specs.Tables.{keys}
use Rattle.ec_log.specs.OfChains.Slots.{live}
use Rattle.ec_protocol.specs.Clerk as clerk
use Rattle.ec_doing.specs.OfHoldings.Owing.{lost_of}
use Rattle.ec_doing.proofs.holdings.ledger.with_operands.Given as goal

abbrev pub invariant-ops : goal.invariant-ops
invariant-ops l = (l.owed.items ++ clerk.with_operands (lost_of l.lost (live (drop l.op-index l.ops))) ≡ clerk.with_operands (lost_of l.lost (live l.ops))) × (keys (lost_of l.lost (live (drop l.op-index l.ops))) ≡ l.left)
