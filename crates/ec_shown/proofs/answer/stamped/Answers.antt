use Rattle.ec_words.specs.RowsLeft.{left}
use Rattle.ec_words.proofs.Misfits.{returned, row_lacks, row_has}
use Rattle.ec_words.specs.Spelling.{IsNumber}
use Rattle.ec_shown.specs.Answers.{Sized, Stamped}
use Rattle.ec_shown.proofs.Said.{a_stamp}
use Rattle.ec_shown.proofs.answer.stamped.Goals as goal

pub returns-in_err-stamp : goal.returns-in_err-stamp
returns-in_err-stamp c =
    let ws = left c.args.words in
    returned (Stamped) ws _ _ c.from_residual.ensures.1 (row_lacks IsNumber Sized ws _ a_stamp c.in_err-stamp.ensures)

pub returns-in_err-others : goal.returns-in_err-others
returns-in_err-others c =
    let ws = left c.args.words in
    let t = c.in_ok-stamp.ensures in
    returned (Stamped) ws _ _ c.from_residual-in_err-others.ensures.1 (row_has IsNumber Sized ws t.0 _ _ _ t.1.0 t.1.1 c.in_err-others.ensures)
