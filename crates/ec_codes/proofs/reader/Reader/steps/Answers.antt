use Rattle.std.proofs.Common.{◌≡◌, ◌++◌, ◌∷◌, [], ◌∙◌}
use Rattle.std.proofs.lemmas.Result.{err_from_is_err_and}
use Rattle.ec_codes.specs.Formats.{rows_read}
use Rattle.ec_codes.specs.Updates.{step_fields}
use Rattle.ec_codes.proofs.Rows.{goes_on_so, ends_so, is_done}
use Rattle.ec_codes.proofs.reader.Reader.steps.Goals as goal

pub returns-in_err-step : goal.returns-in_err-step
returns-in_err-step c =
    let p = err_from_is_err_and c.from_residual.result c.from_residual.ensures.1 in
    rw (p.1, p.2) (ends_so (step_fields c.args.others.now) c.in_err-step.field-0.0 c.args.count c.loop.counter c.loop.up.items c.deref.result.now c.args.self.now.bytes.now c.loop.self.bytes.now c.loop.self.at _ c.loop-test.true c.deref.ensures.value c.loop.invariant.1 c.in_err-step.ensures c.loop.invariant.0)

pub loop-preserved : goal.loop-preserved
loop-preserved c = (
  goes_on_so (step_fields c.args.others.now) c.args.count c.loop.counter c.loop.up.items c.deref.result.now c.push.new.self.items c.args.self.now.bytes.now c.loop.self.bytes.now c.loop.self.at c.in_ok-step.step c.step.new.self.at _ c.loop-test.true c.deref.ensures.value c.loop.invariant.1 c.in_ok-push.ensures.items c.in_ok-step.ensures.0 c.loop.invariant.0,
  c.in_ok-step.ensures.1 ∙ c.loop.invariant.1,
)
