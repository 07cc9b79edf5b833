use Rattle.std.proofs.Common.{sym, arith}
use Rattle.ec_base.proofs.Lists.{appends_two}
use Rattle.ec_lease.proofs.OfDrill.Writes.{at_place, cut_within, texts_next}
use Rattle.ec_lease.proofs.drill.writing.write_lines.Goals as goal

pub writing-preserved : goal.writing-preserved
writing-preserved g c = (
  appends_two _ _ _ _ _ _ c.writing.invariant.0 c.in_default.ensures.ok (sym (texts_next c.args.lines.now c.writing.line-index _ c.writing-test.true c.line-item.is)),
  omega (arith, c.writing.invariant.1, c.in_default.ensures.later),
)

pub returns-in-Err-clause-err : goal.returns-in-Err-clause-err
returns-in-Err-clause-err g c = cut_within _ _ c.writing.line-index _ _ _ _ _ _ _ _ (at_place _ _ _ c.writing-test.true c.line-item.is) c.writing.invariant.1 c.writing.invariant.0 c.in-Err.ensures.err
