use Rattle.ec_words.specs.RowsLeft.{left}
use Rattle.ec_script.proofs.Outside.{faulty}
use Rattle.ec_script.proofs.line.read_line.Goals as goal

pub returns-in-Err : goal.returns-in-Err
returns-in-Err c = faulty c.args.line.now (left c.of.result) c.in-Err.misfit c.fault_at.result c.if-is_comment.ensures c.of.ensures c.in-Err.ensures c.fault_at.ensures
