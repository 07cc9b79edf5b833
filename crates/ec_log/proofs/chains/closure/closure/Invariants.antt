use Rattle.std.proofs.Common.{length}
use Rattle.ec_log.specs.OfChains.Slots.{placed}
use Rattle.ec_log.specs.OfChains.Walk.{passes}
use Rattle.ec_log.proofs.OfChains.Live.{Apart}
use Rattle.ec_log.proofs.OfChains.Onward.{Walking}
use Rattle.ec_log.proofs.chains.closure.closure.Given as goal

abbrev pub invariant-walk : goal.invariant-walk
invariant-walk l = Walking l.ask (placed l.held) (placed l.rest) l.places l.ops.items l.needed.others l.needed.ranges × Apart (passes l.ask) l.rest

abbrev pub decreases-walk : goal.decreases-walk
decreases-walk l = length l.rest
