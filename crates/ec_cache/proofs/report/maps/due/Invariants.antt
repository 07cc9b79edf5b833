use Rattle.std.proofs.Common.{◌≡◌, ◌++◌, drop}
use Rattle.ec_cache.specs.OfReport.Index.{gathered}
use Rattle.ec_cache.proofs.report.maps.due.Given as goal

abbrev pub invariant-loop-obj : goal.invariant-loop-obj
invariant-loop-obj l = l.ops.items ++ gathered (drop l.obj-index l.touched) l.places ≡ gathered l.touched l.places
