use Rattle.std.proofs.Common.{◌≡◌, ◌+◌, drop}
use Rattle.ec_words.specs.PieceLengths.{piece_len}
use Rattle.ec_words.proofs.pieces.piece_len.Given as goal

abbrev pub invariant-loop-byte : goal.invariant-loop-byte
invariant-loop-byte l = (l.at ≡ l.byte-index) × (piece_len l.mark l.bytes ≡ l.at + piece_len l.mark (drop l.byte-index l.bytes))
