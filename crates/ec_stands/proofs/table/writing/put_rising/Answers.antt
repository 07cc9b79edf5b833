use Rattle.std.proofs.lemmas.Result.{on_ok_weaker}
use Rattle.ec_stands.proofs.OfTable.Written.{ids_rise}
use Rattle.ec_stands.proofs.table.writing.put_rising.Goals as goal

pub returns-clause-fit : goal.returns-clause-fit
returns-clause-fit c = on_ok_weaker c.put_each_id.result (λ fit. ids_rise c.args.ids.now c.requires fit) c.put_each_id.ensures.fit
