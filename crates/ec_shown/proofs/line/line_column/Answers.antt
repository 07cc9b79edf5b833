use Rattle.ec_words.specs.Rows.{◌▸◌}
use Rattle.ec_words.specs.RowsLeft.{left}
use Rattle.ec_words.proofs.Misfits.{returned, row_lacks, row_has, begins_row}
use Rattle.std.specs.Prelude.{codes}
use Rattle.ec_words.specs.Rows.{Last}
use Rattle.ec_words.specs.Spelling.{IsSmallNumber}
use Rattle.ec_words.specs.Examples.{a_small_number}
use Rattle.ec_shown.specs.Rows.{Marked}
use Rattle.ec_shown.proofs.Said.{column_begins}
use Rattle.ec_shown.proofs.line.line_column.Goals as goal

pub returns-in_err-line : goal.returns-in_err-line
returns-in_err-line c =
    let ws = left c.args.words in
    returned (IsSmallNumber ▸ Marked (codes "col") (Last IsSmallNumber)) ws _ _ c.from_residual.ensures.1 (row_lacks IsSmallNumber (Marked (codes "col") (Last IsSmallNumber)) ws _ (begins_row IsSmallNumber (Marked (codes "col") (Last IsSmallNumber)) a_small_number column_begins) c.in_err-line.ensures)

pub returns-in_err-column : goal.returns-in_err-column
returns-in_err-column c =
    let ws = left c.args.words in
    let t = c.in_ok-line.ensures in
    returned (IsSmallNumber ▸ Marked (codes "col") (Last IsSmallNumber)) ws _ _ c.from_residual-in_err-column.ensures.1 (row_has IsSmallNumber (Marked (codes "col") (Last IsSmallNumber)) ws t.0 _ _ _ t.1.0 t.1.1 c.in_err-column.ensures)
