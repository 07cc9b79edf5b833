use Rattle.std.proofs.Common.{◌≡◌, length}
use Rattle.ec_words.proofs.Escapes.{behind_text}
use Rattle.ec_shown.specs.Spelling.{written_of}
use Rattle.ec_shown.proofs.text.written_of.Given as goal

abbrev pub invariant-bytes : goal.invariant-bytes
invariant-bytes l = written_of l.word ≡ behind_text l.text.items (written_of l.rest)

abbrev pub decreases-bytes : goal.decreases-bytes
decreases-bytes l = length l.rest
