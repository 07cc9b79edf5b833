use Rattle.std.proofs.Common.{◌≡◌, ◌++◌, take, true}
use Rattle.std.specs.List.{flat_map, list_all}
use Rattle.ec_codes.specs.Fields.{id}
use Rattle.ec_stands.proofs.table.writing.put_each_id.Given as goal

abbrev pub invariant-loop-object : goal.invariant-loop-object
invariant-loop-object l =
    (l.out.items ≡ l.fn.out.items ++ flat_map id.spell (take l.object-index l.ids)) × (list_all id.fits (take l.object-index l.ids) ≡ true)
