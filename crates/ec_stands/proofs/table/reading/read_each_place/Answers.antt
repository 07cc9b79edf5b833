use Rattle.std.proofs.Common.{◌∙◌}
use Rattle.std.proofs.lemmas.Result.{err_from_is_err_and}
use Rattle.ec_stands.specs.OfTable.Codes.{place_after}
use Rattle.ec_codes.proofs.Rows.{goes_on_so, ends_so}
use Rattle.ec_stands.proofs.table.reading.read_each_place.Goals as goal

pub returns-in_err-place : goal.returns-in_err-place
returns-in_err-place c =
    let p = err_from_is_err_and c.from_residual.result c.from_residual.ensures.1 in
    rw (p.1, p.2) (ends_so (place_after c.args.max_objects) c.in_err-place.field-0.0 c.args.count c.loop.counter c.loop.places.items c.deref.result.now c.args.reader.now.bytes.now c.loop.reader.bytes.now c.loop.reader.at _ c.loop-test.true c.deref.ensures.value c.loop.invariant.1 c.in_err-place.ensures c.loop.invariant.0)

pub loop-preserved : goal.loop-preserved
loop-preserved c = (
  goes_on_so (place_after c.args.max_objects) c.args.count c.loop.counter c.loop.places.items c.deref.result.now c.push.new.self.items c.args.reader.now.bytes.now c.loop.reader.bytes.now c.loop.reader.at c.in_ok-place.place c.read_place.new.reader.at _ c.loop-test.true c.deref.ensures.value c.loop.invariant.1 c.in_ok-push.ensures.items c.in_ok-place.ensures.0 c.loop.invariant.0,
  c.in_ok-place.ensures.1 ∙ c.loop.invariant.1,
)
