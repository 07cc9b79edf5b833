use Rattle.ec_words.specs.Rows.{◌⊳◌}
use Rattle.ec_words.specs.RowsLeft.{left}
use Rattle.ec_words.proofs.Misfits.{returned, choice_lacks, choice_has, choice_is}
use Rattle.ec_shown.specs.Spelling.{IsWhy}
use Rattle.ec_shown.specs.Answers.{Refuses}
use Rattle.ec_shown.proofs.Said.{a_refusal}
use Rattle.ec_shown.proofs.Named.{why_once}
use Rattle.ec_shown.proofs.answer.read_refusal.Goals as goal

pub returns-in_err-why : goal.returns-in_err-why
returns-in_err-why c =
    let ws = left c.args.words in
    returned (IsWhy ⊳ Refuses) ws _ _ c.from_residual.ensures.1 (choice_lacks IsWhy Refuses ws _ a_refusal c.in_err-why.ensures)

pub returns-in_err-refusal : goal.returns-in_err-refusal
returns-in_err-refusal c =
    let ws = left c.args.words in
    let t = c.in_ok-why.ensures in
    returned (IsWhy ⊳ Refuses) ws _ _ c.from_residual-in_err-refusal.ensures.1 (choice_has IsWhy Refuses ws t.0 (left c.in_ok-why.rest) c.in_ok-why.why _ (λ u p. why_once t.0 u c.in_ok-why.why p t.1.1) t.1.0 t.1.1 c.in_err-refusal.ensures)

pub returns : goal.returns
returns c =
    let t = c.in_ok-why.ensures in
    choice_is IsWhy Refuses (left c.args.words) t.0 (left c.in_ok-why.rest) c.in_ok-why.why c.in_ok-refusal.refusal t.1.0 t.1.1 c.in_ok-refusal.ensures
