use Rattle.ec_words.specs.RowsLeft.{left}
use Rattle.ec_script.proofs.Outside.{outside}
use Rattle.ec_shown.specs.Lines.{SpellsShown}
use Rattle.ec_shown.proofs.line.read.Goals as goal

pub returns-in-Err : goal.returns-in-Err
returns-in-Err c = outside SpellsShown c.args.line.now (left c.of.result) c.in-Err.misfit c.fault_at.result c.of.ensures c.in-Err.ensures c.fault_at.ensures
