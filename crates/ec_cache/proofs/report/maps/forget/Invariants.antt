use Rattle.std.proofs.Common.{take}
use Rattle.std.specs.Prelude.{T}
use Rattle.std.specs.Ordering.{nat_cmp}
use Rattle.std.specs.FinMap.{is_sorted}
use Rattle.ec_cache.proofs.OfReport.Rows.{Stripping}
use Rattle.ec_cache.proofs.report.maps.forget.Given as goal

abbrev pub invariant-loop-op : goal.invariant-loop-op
invariant-loop-op l = record {
  sorted : T (is_sorted nat_cmp l.rows);
  stripped : Stripping l.obj (take l.op-index l.op-items) l.fn.rows l.rows;
}
