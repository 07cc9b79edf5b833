use Rattle.std.proofs.Common.{◌≡◌, drop}
use Rattle.ec_cache.specs.OfReport.Index.{HaveSameMentions}
use Rattle.ec_cache.specs.OfReport.Report.{pairs_of, clear}
use Rattle.ec_cache.proofs.report.maps.forget_all.Given as goal

abbrev pub invariant-loop-obj : goal.invariant-loop-obj
invariant-loop-obj l = record {
  agrees : HaveSameMentions l.rows l.places;
  owed : clear (drop l.obj-index l.touched) (pairs_of l.rows) ≡ clear l.touched (pairs_of l.fn.rows);
}
