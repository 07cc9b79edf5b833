use Rattle.std.proofs.Common.{◌≡◌, take}
use Rattle.ec_link.proofs.asked.named.Given as goal

abbrev pub invariant-loop-byte : goal.invariant-loop-byte
invariant-loop-byte l = l.name.items ≡ take l.byte-index l.byte-items
