use Rattle.std.proofs.Common.{◌≡◌, drop}
use Rattle.ec_protocol.specs.Clerk as clerk
use Rattle.ec_doing.proofs.holdings.granting.take_each.Given as goal

abbrev pub invariant-objects : goal.invariant-objects
invariant-objects l = clerk.take_each l.number (drop l.obj-index l.objs) l.cache ≡ clerk.take_each l.number l.objs l.fn.cache
