use Rattle.std.proofs.Common.{◌∙◌}
use Rattle.std.proofs.lemmas.Result.{err_from_is_err_and}
use Rattle.ec_stands.specs.OfTable.Codes.{id_above}
use Rattle.ec_codes.proofs.Rows.{goes_on_so, ends_so}
use Rattle.ec_stands.proofs.table.reading.read_each_id.Goals as goal

pub returns-in_err-id : goal.returns-in_err-id
returns-in_err-id c =
    let p = err_from_is_err_and c.from_residual.result c.from_residual.ensures.1 in
    rw (p.1, p.2) (ends_so id_above c.in_err-id.field-0.0 c.args.count c.loop.counter c.loop.ids.items c.deref.result.now c.args.reader.now.bytes.now c.loop.reader.bytes.now c.loop.reader.at _ c.loop-test.true c.deref.ensures.value c.loop.invariant.1 c.in_err-id.ensures c.loop.invariant.0)

pub loop-preserved : goal.loop-preserved
loop-preserved c = (
  goes_on_so id_above c.args.count c.loop.counter c.loop.ids.items c.deref.result.now c.push.new.self.items c.args.reader.now.bytes.now c.loop.reader.bytes.now c.loop.reader.at c.in_ok-id.id c.read_id_above.new.reader.at _ c.loop-test.true c.deref.ensures.value c.loop.invariant.1 c.in_ok-push.ensures.items c.in_ok-id.ensures.0 c.loop.invariant.0,
  c.in_ok-id.ensures.1 ∙ c.loop.invariant.1,
)
