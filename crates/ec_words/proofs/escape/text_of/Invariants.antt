use Rattle.std.proofs.Common.{◌≡◌, length}
use Rattle.ec_words.specs.Spelling.{text_of}
use Rattle.ec_words.proofs.Escapes.{behind_text}
use Rattle.ec_words.proofs.escape.text_of.Given as goal

abbrev pub invariant-bytes : goal.invariant-bytes
invariant-bytes l = text_of l.word ≡ behind_text l.text.items (text_of l.rest)

abbrev pub decreases-bytes : goal.decreases-bytes
decreases-bytes l = length l.rest
