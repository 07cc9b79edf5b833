use Rattle.std.proofs.Common.{◌≡◌, ◌++◌, take}
use Rattle.ec_words.specs.OfText.Pieces.{escaped}
use Rattle.ec_words.proofs.text.pieces.push_escaped.Given as goal

abbrev pub invariant-loop-byte : goal.invariant-loop-byte
invariant-loop-byte l = l.out.items ≡ l.fn.out.items ++ escaped (take l.byte-index l.bytes)
