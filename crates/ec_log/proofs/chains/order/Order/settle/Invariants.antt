use Rattle.std.proofs.Common.{◌≡◌, take}
use Rattle.ec_log.specs.OfChains.Held.{settle}
use Rattle.ec_log.proofs.chains.order.Order.settle.Given as goal

abbrev pub invariant-each : goal.invariant-each
invariant-each l = l.self ≡ settle (take l.op-index l.ops) l.fn.self
