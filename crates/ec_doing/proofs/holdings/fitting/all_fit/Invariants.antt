use Rattle.std.proofs.Common.{◌≡◌, drop}
use Rattle.std.specs.List.{list_all}
use Rattle.ec_volume.specs.Update.{fits}
use Rattle.ec_cache.specs.Cache.{images_held}
use Rattle.ec_doing.proofs.holdings.fitting.all_fit.Given as goal

abbrev pub invariant-objects : goal.invariant-objects
invariant-objects l = list_all (λ x. fits l.update x (images_held l.cache x)) (drop l.obj-index l.objs) ≡ list_all (λ x. fits l.update x (images_held l.cache x)) l.objs
