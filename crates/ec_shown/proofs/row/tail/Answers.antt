use Rattle.ec_words.specs.RowsLeft.{left}
use Rattle.ec_words.proofs.Misfits.{failed}
use Rattle.ec_words.specs.RowsLeft.{IsMisfit}
use Rattle.ec_shown.specs.Rows.{Tail}
use Rattle.ec_shown.proofs.Behind.{tail_has}
use Rattle.ec_shown.proofs.row.tail.Goals as goal

pub returns-in_err-value : goal.returns-in_err-value
returns-in_err-value g c =
    let P = g.V.Spelled.stands in
    let mark = c.args.mark.now in
    let ws = left c.args.words in
    failed _ (IsMisfit (Tail mark P) ws) _ _ c.from_residual.ensures.1 (tail_has mark P ws c.in-Some.word.now (left c.in-Some.rest) _ c.in-Some.ensures c.if-not-is_word.ensures c.in_err-value.ensures)
