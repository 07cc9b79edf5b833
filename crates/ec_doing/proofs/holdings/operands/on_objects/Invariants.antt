use Rattle.std.proofs.Common.{◌≡◌, ◌++◌, drop}
use Rattle.ec_log.specs.OfChains.Slots.{live}
use Rattle.ec_protocol.specs.Clerk as clerk
use Rattle.ec_doing.proofs.holdings.operands.on_objects.Given as goal

abbrev pub invariant-ops : goal.invariant-ops
invariant-ops l = l.objs.items ++ clerk.on_objects (live (drop l.update-index l.ops)) ≡ clerk.on_objects (live l.ops)
