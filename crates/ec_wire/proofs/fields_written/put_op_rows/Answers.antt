use Rattle.std.proofs.lemmas.Result.{on_ok_weaker}
use Rattle.ec_wire.specs.MsgLaws.{ops_fit}
use Rattle.ec_wire.proofs.fields_written.put_op_rows.Goals as goal

pub returns-clause-fit : goal.returns-clause-fit
returns-clause-fit c = on_ok_weaker c.put_each_op.result (λ f. ops_fit c.args.ops.now f c.requires.rise) c.put_each_op.ensures.fit
