use Rattle.std.proofs.Common.{◌∙◌, refl}
use Rattle.std.proofs.lemmas.Result.{err_from_is_err_and}
use Rattle.ec_durable.specs.Codes.{op_fields}
use Rattle.ec_codes.proofs.Rows.{goes_on_so, ends_so}
use Rattle.ec_durable.proofs.decoding.read_each_op.Goals as goal

pub returns-in_err-op : goal.returns-in_err-op
returns-in_err-op c =
    let p = err_from_is_err_and c.from_residual.result c.from_residual.ensures.1 in
    rw (p.1, p.2) (ends_so (λ before. op_fields) c.in_err-op.field-0.0 c.args.count c.loop.counter c.loop.ops.items c.loop.ops.items c.args.reader.now.bytes.now c.loop.reader.bytes.now c.loop.reader.at _ c.loop-test.true refl c.loop.invariant.1 c.in_err-op.ensures c.loop.invariant.0)

pub loop-preserved : goal.loop-preserved
loop-preserved c = (
  goes_on_so (λ before. op_fields) c.args.count c.loop.counter c.loop.ops.items c.loop.ops.items c.push.new.self.items c.args.reader.now.bytes.now c.loop.reader.bytes.now c.loop.reader.at c.in_ok-op.op c.read_op.new.reader.at _ c.loop-test.true refl c.loop.invariant.1 c.in_ok-push.ensures.items c.in_ok-op.ensures.0 c.loop.invariant.0,
  c.in_ok-op.ensures.1 ∙ c.loop.invariant.1,
)
