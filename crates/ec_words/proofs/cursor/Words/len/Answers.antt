use Rattle.std.proofs.Common.{sym, ap, ◌∙◌}
use Rattle.ec_words.specs.RowsLeft.{left_in, joined_len}
use Rattle.ec_words.proofs.Left.{joined_len-words_of}
use Rattle.ec_words.proofs.cursor.Words.len.Goals as goal

pub returns-in-Some : goal.returns-in-Some
returns-in-Some c = sym (joined_len-words_of c.in-Some.bytes.now) ∙ ap (λ r. joined_len (left_in r)) (sym c.in-Some.is)
