use Rattle.std.proofs.Common.{◌≡◌, drop}
use Rattle.ec_cache.specs.Cache.{all_used}
use Rattle.ec_doing.proofs.holdings.using.use_all.Given as goal

abbrev pub invariant-objects : goal.invariant-objects
invariant-objects l = all_used (drop l.obj-index l.objs) l.cache ≡ all_used l.objs l.fn.cache
