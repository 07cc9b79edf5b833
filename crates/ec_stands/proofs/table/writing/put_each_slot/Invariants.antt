use Rattle.std.proofs.Common.{◌≡◌, ◌<◌, ◌++◌, take, length, true}
use Rattle.std.specs.List.{flat_map, list_all}
use Rattle.ec_stands.specs.OfTable.Codes.{slot_code}
use Rattle.ec_stands.proofs.table.writing.put_each_slot.Given as goal

abbrev pub invariant-loop-number : goal.invariant-loop-number
invariant-loop-number l = record {
  written : (l.out.items ≡ l.fn.out.items ++ flat_map slot_code.spell (take l.number l.sessions)) × (list_all slot_code.fits (take l.number l.sessions) ≡ true);
  sixteen : 0 < l.number → length l.sessions ≡ 16;
}
