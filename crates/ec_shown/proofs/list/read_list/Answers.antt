use Rattle.ec_words.specs.RowsLeft.{left}
use Rattle.ec_words.proofs.Misfits.{returned}
use Rattle.ec_shown.specs.Rows.{SpellsList}
use Rattle.ec_shown.proofs.Rising.{list_missing, list_stop, behind_number, behind_mark}
use Rattle.ec_shown.proofs.list.read_list.Goals as goal

pub returns-in_default : goal.returns-in_default
returns-in_default c = list_missing (left c.args.words) c.in_default.ensures

pub returns-in_err-ops : goal.returns-in_err-ops
returns-in_err-ops c =
    let ws = left c.args.words in
    returned SpellsList ws _ _ c.from_residual.ensures.1 (behind_number ws c.in-Some.word.now (left c.in-Some.rest) c.in-Some-number_in.op _ c.in-Some.ensures c.in-Some-number_in.ensures c.in_err-ops.ensures)

pub returns-then-not-is_word : goal.returns-then-not-is_word
returns-then-not-is_word c = list_stop (left c.args.words) c.in-Some.word.now (left c.in-Some.rest) c.len.result c.in-Some.ensures c.len.ensures c.in_default-number_in.ensures c.if-not-is_word.ensures

pub returns-in_err-no_more : goal.returns-in_err-no_more
returns-in_err-no_more c =
    let ws = left c.args.words in
    returned SpellsList ws _ _ c.from_residual-in_err-no_more.ensures.1 (behind_mark ws c.in-Some.word.now (left c.in-Some.rest) _ c.in-Some.ensures c.in_default-number_in.ensures c.if-not-is_word.ensures c.in_err-no_more.ensures)
