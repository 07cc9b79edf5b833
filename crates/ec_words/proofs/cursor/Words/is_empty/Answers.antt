use Rattle.std.proofs.Common.{sym, ap, ◌∙◌}
use Rattle.ec_words.specs.RowsLeft.{left_in}
use Rattle.ec_words.proofs.Left.{no_words}
use Rattle.ec_words.proofs.cursor.Words.is_empty.Goals as goal

pub returns-in-Some : goal.returns-in-Some
returns-in-Some c = λ e. no_words c.in-Some.field-0.now (ap left_in (sym c.in-Some.is) ∙ e)
