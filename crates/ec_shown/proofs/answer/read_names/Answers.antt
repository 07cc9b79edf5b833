use Rattle.ec_words.specs.Rows.{◌⊳◌}
use Rattle.ec_words.specs.RowsLeft.{left}
use Rattle.ec_words.proofs.Misfits.{returned, choice_lacks, choice_has, choice_is}
use Rattle.ec_words.specs.Spelling.{IsNumber}
use Rattle.ec_words.specs.Examples.{a_number}
use Rattle.ec_words.proofs.OneCall.{number}
use Rattle.ec_shown.specs.Rows.{Times}
use Rattle.ec_shown.specs.Spelling.{IsNameText}
use Rattle.ec_shown.specs.Examples.{a_name}
use Rattle.ec_shown.proofs.Behind.{begins_choice}
use Rattle.ec_shown.proofs.Counted.{begins_times}
use Rattle.std.proofs.Common.{sym, subst}
use Rattle.ec_shown.proofs.answer.read_names.Goals as goal

pub returns-in_err-count : goal.returns-in_err-count
returns-in_err-count c =
    let ws = left c.args.words in
    returned (IsNumber ⊳ Times IsNameText) ws _ _ c.from_residual.ensures.1 (choice_lacks IsNumber (Times IsNameText) ws _ (begins_choice IsNumber (Times IsNameText) a_number (begins_times IsNameText a_name a_number.1.0)) c.in_err-count.ensures)

pub returns-in_err-names : goal.returns-in_err-names
returns-in_err-names c =
    let ws = left c.args.words in
    let t = c.in_ok-count.ensures in
    returned (IsNumber ⊳ Times IsNameText) ws _ _ c.from_residual-in_err-names.ensures.1 (choice_has IsNumber (Times IsNameText) ws t.0 (left c.in_ok-count.rest) c.in_ok-count.count _ (λ u p. number t.0 u c.in_ok-count.count p t.1.1) t.1.0 t.1.1 c.in_err-names.ensures)

pub returns : goal.returns
returns c =
    let t = c.in_ok-count.ensures in
    subst ((IsNumber ⊳ Times IsNameText) (left c.args.words)) (sym c.of.ensures) (choice_is IsNumber (Times IsNameText) (left c.args.words) t.0 (left c.in_ok-count.rest) c.in_ok-count.count c.in_ok-names.names.items t.1.0 t.1.1 c.in_ok-names.ensures)
