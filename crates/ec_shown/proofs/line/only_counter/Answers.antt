use Rattle.ec_words.specs.RowsLeft.{left}
use Rattle.ec_words.specs.Rows.{Last}
use Rattle.ec_words.proofs.Misfits.{returned, last_lacks, last_has}
use Rattle.ec_shown.specs.Spelling.{IsCounter}
use Rattle.ec_shown.proofs.Said.{a_counter}
use Rattle.ec_shown.proofs.line.only_counter.Goals as goal

pub returns-in_err-counter : goal.returns-in_err-counter
returns-in_err-counter c =
    let ws = left c.args.words in
    returned (Last IsCounter) ws _ _ c.from_residual.ensures.1 (last_lacks IsCounter ws _ a_counter c.in_err-counter.ensures)

pub returns-in_err-no_more : goal.returns-in_err-no_more
returns-in_err-no_more c =
    let ws = left c.args.words in
    let t = c.in_ok-counter.ensures in
    returned (Last IsCounter) ws _ _ c.from_residual-in_err-no_more.ensures.1 (last_has IsCounter ws t.0 _ _ _ t.1.0 t.1.1 c.in_err-no_more.ensures)
