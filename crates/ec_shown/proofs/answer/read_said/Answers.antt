use Rattle.ec_words.specs.Rows.{◌⊳◌}
use Rattle.ec_words.specs.RowsLeft.{left}
use Rattle.ec_words.proofs.Misfits.{returned, choice_lacks, choice_has, choice_is}
use Rattle.ec_shown.specs.Spelling.{IsSaid}
use Rattle.ec_shown.specs.Answers.{Tells}
use Rattle.ec_shown.proofs.Said.{a_told}
use Rattle.ec_shown.proofs.Named.{said_once}
use Rattle.ec_shown.proofs.answer.read_said.Goals as goal

pub returns-in_err-said : goal.returns-in_err-said
returns-in_err-said c =
    let ws = left c.args.words in
    returned (IsSaid ⊳ Tells) ws _ _ c.from_residual.ensures.1 (choice_lacks IsSaid Tells ws _ a_told c.in_err-said.ensures)

pub returns-in_err-outcome : goal.returns-in_err-outcome
returns-in_err-outcome c =
    let ws = left c.args.words in
    let t = c.in_ok-said.ensures in
    returned (IsSaid ⊳ Tells) ws _ _ c.from_residual-in_err-outcome.ensures.1 (choice_has IsSaid Tells ws t.0 (left c.in_ok-said.rest) c.in_ok-said.said _ (λ u p. said_once t.0 u c.in_ok-said.said p t.1.1) t.1.0 t.1.1 c.in_err-outcome.ensures)

pub returns : goal.returns
returns c =
    let t = c.in_ok-said.ensures in
    choice_is IsSaid Tells (left c.args.words) t.0 (left c.in_ok-said.rest) c.in_ok-said.said c.in_ok-outcome.outcome t.1.0 t.1.1 c.in_ok-outcome.ensures
