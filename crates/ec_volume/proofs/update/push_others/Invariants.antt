use Rattle.std.proofs.Common.{◌≡◌, ◌==◌, not, ◌++◌, take}
use Rattle.std.specs.List.{filter}
use Rattle.ec_volume.specs.Update.{ids_of}
use Rattle.ec_volume.proofs.update.push_others.Given as goal

abbrev pub invariant-loop-id : goal.invariant-loop-id
invariant-loop-id l = l.ids.items ≡ l.fn.ids.items ++ filter (λ o. not (o == l.dir)) (ids_of (take l.id-index l.up))
