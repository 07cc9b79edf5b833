use Rattle.ec_words.specs.Rows.{◌⊳◌}
use Rattle.ec_words.specs.RowsLeft.{left}
use Rattle.ec_words.proofs.Misfits.{returned, choice_lacks, choice_has, choice_is}
use Rattle.ec_words.specs.Spelling.{IsNumber}
use Rattle.ec_words.specs.Examples.{a_number}
use Rattle.ec_words.proofs.OneCall.{number}
use Rattle.ec_shown.specs.Answers.{TextOf}
use Rattle.ec_shown.proofs.Behind.{begins_choice}
use Rattle.ec_shown.proofs.Counted.{begins_text}
use Rattle.ec_shown.proofs.answer.read_data.Goals as goal

pub returns-in_err-len : goal.returns-in_err-len
returns-in_err-len c =
    let ws = left c.args.words in
    returned (IsNumber ⊳ TextOf) ws _ _ c.from_residual.ensures.1 (choice_lacks IsNumber TextOf ws _ (begins_choice IsNumber TextOf a_number (begins_text a_number.1.0)) c.in_err-len.ensures)

pub returns-in_err-bytes : goal.returns-in_err-bytes
returns-in_err-bytes c =
    let ws = left c.args.words in
    let t = c.in_ok-len.ensures in
    returned (IsNumber ⊳ TextOf) ws _ _ c.from_residual-in_err-bytes.ensures.1 (choice_has IsNumber TextOf ws t.0 (left c.in_ok-len.rest) c.in_ok-len.len _ (λ u p. number t.0 u c.in_ok-len.len p t.1.1) t.1.0 t.1.1 c.in_err-bytes.ensures)

pub returns : goal.returns
returns c =
    let t = c.in_ok-len.ensures in
    choice_is IsNumber TextOf (left c.args.words) t.0 (left c.in_ok-len.rest) c.in_ok-len.len c.in_ok-bytes.bytes t.1.0 t.1.1 c.in_ok-bytes.ensures
