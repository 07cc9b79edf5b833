use Rattle.std.proofs.Common.{◌≡◌, ◌++◌, take}
use Rattle.std.specs.List.{flat_map}
use Rattle.ec_stands.specs.OfTable.Codes.{place_spell}
use Rattle.ec_stands.proofs.table.writing.put_each_place.Given as goal

abbrev pub invariant-loop-place : goal.invariant-loop-place
invariant-loop-place l = l.out.items ≡ l.fn.out.items ++ flat_map place_spell (take l.place-index l.places)
