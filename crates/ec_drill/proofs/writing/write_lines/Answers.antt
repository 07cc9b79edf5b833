use Rattle.ec_drill.proofs.Writes.{cut_lines, split_at}
use Rattle.ec_drill.proofs.writing.write_lines.Goals as goal

pub returns-in-Err-clause-err : goal.returns-in-Err-clause-err
returns-in-Err-clause-err g c = cut_lines _ _ c.writing.line-index _ _ _ _ _ _ _ _ (split_at _ _ _ c.writing-test.true c.line-item.is) c.writing.invariant.1 c.writing.invariant.0 c.in-Err.ensures.err
