use Rattle.std.proofs.Common.{◌≡◌, take}
use Rattle.ec_store.specs.Stepping.{picked}
use Rattle.ec_store.proofs.stepping.pick.Given as goal

abbrev pub invariant-objects : goal.invariant-objects
invariant-objects l = l.list.items ≡ picked l.ids (take l.object-index l.object-items)
