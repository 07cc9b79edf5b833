use Rattle.ec_words.specs.RowsLeft.{left}
use Rattle.ec_words.proofs.Misfits.{returned, row_lacks, row_has}
use Rattle.ec_words.specs.Spelling.{IsMode}
use Rattle.ec_shown.specs.Answers.{Stamped, Moded}
use Rattle.ec_shown.proofs.Said.{a_mode_behind}
use Rattle.ec_shown.proofs.answer.moded.Goals as goal

pub returns-in_err-mode : goal.returns-in_err-mode
returns-in_err-mode c =
    let ws = left c.args.words in
    returned (Moded) ws _ _ c.from_residual.ensures.1 (row_lacks IsMode Stamped ws _ a_mode_behind c.in_err-mode.ensures)

pub returns-in_err-others : goal.returns-in_err-others
returns-in_err-others c =
    let ws = left c.args.words in
    let t = c.in_ok-mode.ensures in
    returned (Moded) ws _ _ c.from_residual-in_err-others.ensures.1 (row_has IsMode Stamped ws t.0 _ _ _ t.1.0 t.1.1 c.in_err-others.ensures)
