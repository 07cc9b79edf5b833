use Rattle.ec_words.specs.RowsLeft.{left}
use Rattle.ec_words.specs.Rows.{End, ◌makes◌}
use Rattle.ec_words.proofs.Misfits.{returned, made}
use Rattle.ec_shown.proofs.answer.alone.Goals as goal

pub returns-in_err-no_more : goal.returns-in_err-no_more
returns-in_err-no_more c =
    let ws = left c.args.words in
    returned (End makes λ u. c.args.refusal) ws _ _ c.from_residual.ensures.1 (made End (λ u. c.args.refusal) ws _ c.in_err-no_more.ensures)
