use Rattle.std.proofs.Common.{length}
use Rattle.ec_words.specs.RowsLeft.{left}
use Rattle.ec_shown.proofs.Rising.{Read}
use Rattle.ec_shown.proofs.list.risen.Given as goal

abbrev pub invariant-words : goal.invariant-words
invariant-words l = Read l.first (left l.words) l.ops.items l.last (left l.rest)

abbrev pub decreases-words : goal.decreases-words
decreases-words l = length (left l.rest)
