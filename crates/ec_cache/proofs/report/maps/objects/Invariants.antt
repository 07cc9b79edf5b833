use Rattle.std.proofs.Common.{◌≡◌, ◌++◌, ℕ, drop, map}
use Rattle.ec_cache.specs.OfReport.Index.{AreSeen, fresh}
use Rattle.ec_cache.specs.OfReport.Report.{pairs_of, objects}
use Rattle.ec_cache.proofs.report.maps.objects.Given as goal

abbrev pub invariant-loop-objs : goal.invariant-loop-objs
invariant-loop-objs l = record {
  seen : AreSeen l.list.items l.seen;
  list : l.list.items ++ fresh l.list.items (map (λ (q : ℕ × ℕ). q.1) (pairs_of (drop l.objs-index l.objs-items))) ≡ objects (pairs_of l.rows);
}
