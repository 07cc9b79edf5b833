use Rattle.ec_words.specs.Rows.{◌▸◌}
use Rattle.ec_words.specs.Rows.{Last}
use Rattle.ec_words.specs.RowsLeft.{left}
use Rattle.ec_words.proofs.Misfits.{returned, row_lacks, row_has, begins_row, begins_last}
use Rattle.ec_words.proofs.spelled.two.Goals as goal

pub returns-in_err-value : goal.returns-in_err-value
returns-in_err-value g c =
    let P = g.U.Spelled.stands in
    let G = Last g.V.Spelled.stands in
    let ws = left c.args.words in
    returned (P ▸ G) ws _ _ c.from_residual.ensures.1 (row_lacks P G ws _ (begins_row P G g.U.Spelled.example (begins_last g.V.Spelled.stands g.V.Spelled.example)) c.in_err-value.ensures)

pub returns-in_err-last : goal.returns-in_err-last
returns-in_err-last g c =
    let P = g.U.Spelled.stands in
    let G = Last g.V.Spelled.stands in
    let ws = left c.args.words in
    let t = c.in_ok-value.ensures in
    returned (P ▸ G) ws _ _ c.from_residual-in_err-last.ensures.1 (row_has P G ws t.0 _ _ _ t.1.0 t.1.1 c.in_err-last.ensures)
