use Rattle.ec_words.specs.RowsLeft.{left}
use Rattle.std.proofs.Common.{◌-◌, sym, subst, arith}
use Rattle.ec_words.proofs.Misfits.{returned}
use Rattle.ec_shown.specs.Answers.{TextOf}
use Rattle.ec_shown.proofs.Counted.{none_left, text_lacks, text_has, text_is}
use Rattle.ec_shown.proofs.answer.read_text.Goals as goal

pub returns-in_err-no_more : goal.returns-in_err-no_more
returns-in_err-no_more c =
    let ws = left c.args.words in
    returned (TextOf c.args.len) ws _ _ c.from_residual.ensures.1 (none_left c.args.len ws _ (omega arith) c.in_err-no_more.ensures)

pub returns-in_err-bytes : goal.returns-in_err-bytes
returns-in_err-bytes c =
    let ws = left c.args.words in
    returned (TextOf c.args.len) ws _ _ c.from_residual-in_err-bytes.ensures.1 (text_lacks c.args.len (c.args.len - 1) ws _ (omega arith) c.in_err-bytes.ensures)

pub returns-in_err-no_more-2 : goal.returns-in_err-no_more-2
returns-in_err-no_more-2 c =
    let ws = left c.args.words in
    let t = c.in_ok-bytes.ensures in
    returned (TextOf c.args.len) ws _ _ c.from_residual-in_err-no_more-2.ensures.1 (text_has c.args.len (c.args.len - 1) ws t.0 (left c.in_ok-bytes.rest) c.in_ok-bytes.bytes.items _ (omega arith) t.1.0 t.1.1 c.in_err-no_more-2.ensures)

pub returns : goal.returns
returns c =
    let ws = left c.args.words in
    let t = c.in_ok-bytes.ensures in
    subst (TextOf c.args.len ws) (sym c.of-2.ensures) (text_is c.args.len (c.args.len - 1) ws t.0 (left c.in_ok-bytes.rest) c.in_ok-bytes.bytes.items (omega arith) t.1.0 t.1.1 c.in_ok-no_more-2.ensures)
