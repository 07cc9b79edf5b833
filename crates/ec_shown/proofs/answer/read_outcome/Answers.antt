use Rattle.ec_words.specs.RowsLeft.{left}
use Rattle.std.specs.Prelude.{codes}
use Rattle.ec_words.proofs.Misfits.{returned}
use Rattle.ec_shown.specs.Rows.{Marked}
use Rattle.ec_shown.proofs.Behind.{marked_lacks, marked_has, marked_is}
use Rattle.ec_shown.specs.Spelling.{IsSaid}
use Rattle.ec_shown.specs.Answers.{Tells}
use Rattle.ec_words.specs.Rows.{◌⊳◌}
use Rattle.ec_shown.proofs.Said.{an_outcome}
use Rattle.ec_shown.proofs.answer.read_outcome.Goals as goal

pub returns-in_err-rest : goal.returns-in_err-rest
returns-in_err-rest c =
    let ws = left c.args.words in
    returned (Marked (codes "->") (IsSaid ⊳ Tells)) ws _ _ c.from_residual.ensures.1 (marked_lacks (codes "->") (IsSaid ⊳ Tells) ws _ an_outcome c.in_err-rest.ensures)

pub returns-in_err-outcome : goal.returns-in_err-outcome
returns-in_err-outcome c =
    let ws = left c.args.words in
    returned (Marked (codes "->") (IsSaid ⊳ Tells)) ws _ _ c.from_residual-in_err-outcome.ensures.1 (marked_has (codes "->") (IsSaid ⊳ Tells) ws _ _ c.in_ok-rest.ensures c.in_err-outcome.ensures)

pub returns : goal.returns
returns c = marked_is (codes "->") (IsSaid ⊳ Tells) (left c.args.words) _ _ c.in_ok-rest.ensures c.in_ok-outcome.ensures
