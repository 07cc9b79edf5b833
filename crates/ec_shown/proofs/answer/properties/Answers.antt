use Rattle.ec_words.specs.RowsLeft.{left}
use Rattle.ec_words.proofs.Misfits.{returned, row_lacks, row_has}
use Rattle.ec_shown.specs.Spelling.{IsKindName}
use Rattle.ec_shown.specs.Answers.{Moded, Properties}
use Rattle.ec_shown.proofs.Said.{properties}
use Rattle.ec_shown.proofs.answer.properties.Goals as goal

pub returns-in_err-kind : goal.returns-in_err-kind
returns-in_err-kind c =
    let ws = left c.args.words in
    returned (Properties) ws _ _ c.from_residual.ensures.1 (row_lacks IsKindName Moded ws _ properties c.in_err-kind.ensures)

pub returns-in_err-others : goal.returns-in_err-others
returns-in_err-others c =
    let ws = left c.args.words in
    let t = c.in_ok-kind.ensures in
    returned (Properties) ws _ _ c.from_residual-in_err-others.ensures.1 (row_has IsKindName Moded ws t.0 _ _ _ t.1.0 t.1.1 c.in_err-others.ensures)
