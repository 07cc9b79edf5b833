use Rattle.std.proofs.Common.{◌≡◌, ◌++◌, drop}
use Rattle.ec_cache.specs.OfReport.Index.{AreSeen, fresh}
use Rattle.ec_cache.proofs.report.maps.list_new.Given as goal

abbrev pub invariant-loop-obj : goal.invariant-loop-obj
invariant-loop-obj l = record {
  seen : AreSeen l.list.items l.seen;
  list : l.list.items ++ fresh l.list.items (drop l.obj-index l.objs) ≡ l.fn.list.items ++ fresh l.fn.list.items l.objs;
}
