use Rattle.std.proofs.Common.{◌≡◌, ◌++◌, take}
use Rattle.ec_codes.specs.Images.{ids_under}
use Rattle.ec_durable.proofs.well_formed.lists.push_all.Given as goal

abbrev pub invariant-entries : goal.invariant-entries
invariant-entries l = l.ids.items ≡ l.fn.ids.items ++ ids_under (take l.place l.entries)
