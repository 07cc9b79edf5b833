use Rattle.ec_words.specs.RowsLeft.{left}
use Rattle.ec_script.specs.Grammar.{Spells}
use Rattle.ec_words.proofs.Misfits.{returned}
use Rattle.ec_script.proofs.Heads.{missing, unknown, behind_clerk, called, behind_keyword}
use Rattle.ec_script.proofs.line.read_words.Goals as goal

pub returns-in_default : goal.returns-in_default
returns-in_default c = missing (left c.args.words) c.in_default.ensures

pub returns-in_err-call : goal.returns-in_err-call
returns-in_err-call c =
    let ws = left c.args.words in
    returned Spells ws _ _ c.from_residual.ensures.1 (behind_clerk ws c.in-Some.word.now (left c.in-Some.rest) c.in-Some-clerk_of.clerk _ c.in-Some.ensures c.in-Some-clerk_of.ensures c.in_err-call.ensures)

pub returns-in-Some-clerk_of : goal.returns-in-Some-clerk_of
returns-in-Some-clerk_of c = called (left c.args.words) c.in-Some.word.now (left c.in-Some.rest) c.in-Some-clerk_of.clerk c.in_ok-call.call c.in-Some.ensures c.in-Some-clerk_of.ensures c.in_ok-call.ensures

pub returns-in-Some-keyword_of : goal.returns-in-Some-keyword_of
returns-in-Some-keyword_of c = behind_keyword (left c.args.words) c.in-Some.word.now (left c.in-Some.rest) c.in-Some-keyword_of.keyword c.read_keyword.result c.in-Some.ensures c.in-Some-keyword_of.ensures c.read_keyword.ensures

pub returns-in-None : goal.returns-in-None
returns-in-None c = unknown (left c.args.words) c.in-Some.word.now (left c.in-Some.rest) c.len.result c.in-Some.ensures c.len.ensures c.in_default-clerk_of.ensures c.in-None.ensures
