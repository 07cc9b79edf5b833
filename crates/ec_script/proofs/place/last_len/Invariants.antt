use Rattle.std.proofs.Common.{◌≡◌, length}
use Rattle.ec_words.specs.RowsLeft.{left}
use Rattle.ec_script.specs.Last.{last_len}
use Rattle.ec_script.proofs.place.last_len.Given as goal

abbrev pub invariant-words : goal.invariant-words
invariant-words l = last_len (left l.words) ≡ last_len (left l.rest)

abbrev pub decreases-words : goal.decreases-words
decreases-words l = length (left l.rest)
