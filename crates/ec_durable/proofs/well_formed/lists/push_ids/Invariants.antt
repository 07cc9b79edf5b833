use Rattle.std.proofs.Common.{◌≡◌, ◌++◌, take}
use Rattle.ec_durable.proofs.well_formed.lists.push_ids.Given as goal

abbrev pub invariant-unspent : goal.invariant-unspent
invariant-unspent l = l.ids.items ≡ l.fn.ids.items ++ take l.id-index l.unspent
