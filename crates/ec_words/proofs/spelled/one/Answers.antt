use Rattle.ec_words.specs.Rows.{Last}
use Rattle.ec_words.specs.RowsLeft.{left}
use Rattle.ec_words.proofs.Misfits.{returned, last_lacks, last_has}
use Rattle.ec_words.proofs.spelled.one.Goals as goal

pub returns-in_err-value : goal.returns-in_err-value
returns-in_err-value g c =
    let P = g.V.Spelled.stands in
    let ws = left c.args.words in
    returned (Last P) ws _ _ c.from_residual.ensures.1 (last_lacks P ws _ g.V.Spelled.example c.in_err-value.ensures)

pub returns-in_err-no_more : goal.returns-in_err-no_more
returns-in_err-no_more g c =
    let P = g.V.Spelled.stands in
    let ws = left c.args.words in
    let t = c.in_ok-value.ensures in
    returned (Last P) ws _ _ c.from_residual-in_err-no_more.ensures.1 (last_has P ws t.0 _ _ _ t.1.0 t.1.1 c.in_err-no_more.ensures)
