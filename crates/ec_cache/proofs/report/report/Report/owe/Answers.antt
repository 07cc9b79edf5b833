use Rattle.ec_cache.proofs.OfReport.Rows.{owe_step}
use Rattle.ec_cache.proofs.report.report.Report.owe.Goals as goal

pub loop-op-preserved : goal.loop-op-preserved
loop-op-preserved c =
    let next =
    owe_step c.args.lost.now c.loop-op.op-index c.loop-op-item.result c.loop-op.rows c.add.new.rows _ c.loop-op-test.true c.loop-op-item.is c.loop-op.invariant.agrees.rising c.in_ok-add.ensures.rows c.loop-op.invariant.behind c.loop-op.invariant.owed in
    record { agrees = c.in_ok-add.ensures.agrees; owed = next.1; behind = next.2 }
