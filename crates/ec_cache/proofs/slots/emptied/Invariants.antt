use Rattle.std.proofs.Common.{◌≡◌, take}
use Rattle.ec_cache.specs.Marks.{emptied}
use Rattle.ec_cache.proofs.slots.emptied.Given as goal

abbrev pub invariant-loop-obj : goal.invariant-loop-obj
invariant-loop-obj l = l.items.items ≡ emptied (take l.obj-index l.obj-items)
