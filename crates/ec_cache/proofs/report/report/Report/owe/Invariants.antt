use Rattle.std.proofs.Common.{◌≡◌, drop, true}
use Rattle.ec_cache.specs.OfReport.Index.{HaveSameMentions}
use Rattle.ec_cache.specs.OfReport.Report.{pairs_of, owe}
use Rattle.ec_cache.specs.OfReport.OwedOrder.{come_behind}
use Rattle.ec_cache.proofs.report.report.Report.owe.Given as goal

abbrev pub invariant-loop-op : goal.invariant-loop-op
invariant-loop-op l = record {
  agrees : HaveSameMentions l.rows l.places;
  owed : owe (drop l.op-index l.lost) (pairs_of l.rows) ≡ owe l.lost (pairs_of l.self-inside.rows);
  behind : come_behind (drop l.op-index l.lost) (pairs_of l.rows) ≡ true;
}
