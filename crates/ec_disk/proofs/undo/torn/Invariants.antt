use Rattle.std.proofs.Common.{◌≡◌, map}
use Rattle.std.specs.List.{range_with_len}
use Rattle.ec_disk.specs.Undo.{torn_byte}
use Rattle.ec_disk.proofs.undo.torn.Given as goal

abbrev pub invariant-loop-i : goal.invariant-loop-i
invariant-loop-i l = l.bytes.items ≡ map (torn_byte l.at l.new l.old) (range_with_len 0 l.i)
