use Rattle.std.proofs.Common.{◌≡◌, map, take}
use Rattle.ec_mount.specs.Script.{calls_of}
use Rattle.ec_mount.proofs.script.calls_of_each.Given as goal

abbrev pub invariant-lanes : goal.invariant-lanes
invariant-lanes l = l.made.items ≡ map (λ lane. calls_of lane l.rows) (take l.lane-index l.lanes)
