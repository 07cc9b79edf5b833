use Rattle.std.proofs.Common.{◌≡◌, ◌-◌, length, take}
use Rattle.ec_pending.specs.OfOwes.Owes.{staying}
use Rattle.ec_pending.proofs.owes.owes.Owes.all.Given as goal

abbrev pub invariant-each : goal.invariant-each
invariant-each l = l.pairs.items ≡ staying l.self-inside.spans 0 (take l.at l.self-inside.pairs.items)

abbrev pub decreases-each : goal.decreases-each
decreases-each l = length l.self-inside.pairs.items - l.at
