use Rattle.ec_words.specs.Rows.{◌▸◌}
use Rattle.ec_words.specs.RowsLeft.{left}
use Rattle.ec_words.proofs.Misfits.{returned, row_lacks, row_has, begins_row, begins_last}
use Rattle.ec_words.specs.Rows.{Last}
use Rattle.ec_words.specs.Spelling.{IsNumber}
use Rattle.ec_words.specs.Examples.{a_number}
use Rattle.ec_shown.specs.Spelling.{IsLimit}
use Rattle.ec_shown.proofs.Said.{a_limit}
use Rattle.ec_shown.proofs.line.limit_number.Goals as goal

pub returns-in_err-name : goal.returns-in_err-name
returns-in_err-name c =
    let ws = left c.args.words in
    returned (IsLimit ▸ Last IsNumber) ws _ _ c.from_residual.ensures.1 (row_lacks IsLimit (Last IsNumber) ws _ (begins_row IsLimit (Last IsNumber) a_limit (begins_last IsNumber a_number)) c.in_err-name.ensures)

pub returns-in_err-number : goal.returns-in_err-number
returns-in_err-number c =
    let ws = left c.args.words in
    let t = c.in_ok-name.ensures in
    returned (IsLimit ▸ Last IsNumber) ws _ _ c.from_residual-in_err-number.ensures.1 (row_has IsLimit (Last IsNumber) ws t.0 _ _ _ t.1.0 t.1.1 c.in_err-number.ensures)
