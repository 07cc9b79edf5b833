use Rattle.ec_words.specs.RowsLeft.{left}
use Rattle.ec_shown.specs.Spelling.{IsNameText}
use Rattle.ec_shown.proofs.Counted.{Read}
use Rattle.ec_shown.proofs.answer.so_many_names.Given as goal

abbrev pub invariant-names : goal.invariant-names
invariant-names l = Read IsNameText l.count (left l.words) l.names.items l.missing (left l.rest)

abbrev pub decreases-names : goal.decreases-names
decreases-names l = l.missing
