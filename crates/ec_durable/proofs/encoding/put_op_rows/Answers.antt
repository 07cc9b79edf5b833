use Rattle.std.proofs.Common.{◌∙◌, []}
use Rattle.std.proofs.lemmas.Result.{on_ok_weaker}
use Rattle.ec_durable.specs.Codes.{op_fields}
use Rattle.ec_durable.specs.CodeLaws.{rows_all}
use Rattle.ec_durable.proofs.encoding.put_op_rows.Goals as goal

pub returns-clause-fit : goal.returns-clause-fit
returns-clause-fit c = on_ok_weaker c.put_each_op.result (λ f. rows_all op_fields [] c.args.ops.now ∙ f) c.put_each_op.ensures.fit
