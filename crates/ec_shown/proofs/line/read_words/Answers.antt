use Rattle.ec_words.specs.RowsLeft.{left}
use Rattle.std.proofs.Common.{inl, inr}
use Rattle.ec_shown.proofs.Firsts.{missing, unknown, behind_first}
use Rattle.ec_shown.proofs.line.read_words.Goals as goal

pub returns-in_default : goal.returns-in_default
returns-in_default c = missing (left c.args.words) c.in_default.ensures

pub returns-in-Some-line_number : goal.returns-in-Some-line_number
returns-in-Some-line_number c = behind_first (left c.args.words) c.in-Some.word.now (left c.in-Some.rest) (inl c.in-Some-line_number.number) c.read_call.result c.in-Some.ensures c.in-Some-line_number.ensures c.read_call.ensures

pub returns-in-Some-head_of : goal.returns-in-Some-head_of
returns-in-Some-head_of c = behind_first (left c.args.words) c.in-Some.word.now (left c.in-Some.rest) (inr c.in-Some-head_of.head) c.read_head.result c.in-Some.ensures c.in-Some-head_of.ensures c.read_head.ensures

pub returns-in-None : goal.returns-in-None
returns-in-None c = unknown (left c.args.words) c.in-Some.word.now (left c.in-Some.rest) c.len.result c.in-Some.ensures c.len.ensures c.in_default-line_number.ensures c.in-None.ensures
