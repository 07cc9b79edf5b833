use Rattle.ec_cache.proofs.OfReport.Rows.{clear_step, clear_end}
use Rattle.ec_cache.proofs.report.maps.forget_all.Goals as goal

pub loop-obj-preserved : goal.loop-obj-preserved
loop-obj-preserved c = record {
  agrees = c.forget.ensures.agrees;
  owed = clear_step c.args.touched.now c.loop-obj.obj-index c.obj-item.result c.loop-obj.rows c.forget.new.rows _ c.loop-obj-test.true c.obj-item.is c.forget.ensures.rows c.loop-obj.invariant.owed;
}

pub returns-clause-pairs : goal.returns-clause-pairs
returns-clause-pairs c = clear_end c.args.touched.now c.loop-obj.obj-index _ _ c.loop-obj-test.false c.loop-obj.invariant.owed
