use Rattle.std.proofs.Common.{◌≡◌, ◌-◌, length, take}
use Rattle.ec_pending.specs.OfOwes.Owes.{staying, on_one}
use Rattle.ec_pending.proofs.owes.owes.found.Given as goal

abbrev pub invariant-each : goal.invariant-each
invariant-each l = l.found.items ≡ on_one l.objs (staying l.spans 0 (take l.at l.pairs))

abbrev pub decreases-each : goal.decreases-each
decreases-each l = length l.pairs - l.at
