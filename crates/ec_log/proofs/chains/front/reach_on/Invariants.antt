use Rattle.ec_log.specs.OfChains.Slots.{placed}
use Rattle.ec_log.proofs.OfChains.Reached.{AreFound}
use Rattle.ec_log.proofs.chains.front.reach_on.Given as goal

abbrev pub invariant-reach : goal.invariant-reach
invariant-reach l = AreFound l.obj l.chain (placed l.held) l.op-index l.place l.found
