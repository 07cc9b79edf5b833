use Rattle.ec_words.specs.RowsLeft.{left}
use Rattle.ec_words.specs.Calls.{SpellsCall}
use Rattle.ec_script.proofs.Outside.{outside}
use Rattle.ec_mount_table.proofs.script.read_bare.Goals as goal

pub returns-in-Err : goal.returns-in-Err
returns-in-Err c = outside SpellsCall c.args.line.now (left c.of.result) c.in-Err.misfit c.fault_at.result c.of.ensures c.in-Err.ensures c.fault_at.ensures
