use Rattle.ec_words.specs.RowsLeft.{left}
use Rattle.std.specs.Prelude.{codes}
use Rattle.ec_words.proofs.Misfits.{returned}
use Rattle.ec_shown.specs.Rows.{Marked}
use Rattle.ec_shown.proofs.Behind.{marked_lacks, marked_has, marked_is}
use Rattle.ec_words.specs.Rows.{Last}
use Rattle.ec_words.specs.Spelling.{IsSmallNumber}
use Rattle.ec_shown.proofs.Said.{column_begins}
use Rattle.ec_shown.proofs.line.column.Goals as goal

pub returns-in_err-rest : goal.returns-in_err-rest
returns-in_err-rest c =
    let ws = left c.args.words in
    returned (Marked (codes "col") (Last IsSmallNumber)) ws _ _ c.from_residual.ensures.1 (marked_lacks (codes "col") (Last IsSmallNumber) ws _ column_begins c.in_err-rest.ensures)

pub returns-in_err-column : goal.returns-in_err-column
returns-in_err-column c =
    let ws = left c.args.words in
    returned (Marked (codes "col") (Last IsSmallNumber)) ws _ _ c.from_residual-in_err-column.ensures.1 (marked_has (codes "col") (Last IsSmallNumber) ws _ _ c.in_ok-rest.ensures c.in_err-column.ensures)

pub returns : goal.returns
returns c = marked_is (codes "col") (Last IsSmallNumber) (left c.args.words) _ _ c.in_ok-rest.ensures c.in_ok-column.ensures
