use Rattle.std.proofs.Common.{◌≡◌, ◌≤◌, ◌-◌, [], length, take}
use Rattle.ec_log.specs.OfChains.Slots.{live}
use Rattle.ec_log.proofs.chains.slots.leading.Given as goal

abbrev pub invariant-each : goal.invariant-each
invariant-each l = (l.count ≤ length l.held) × (live (take l.count l.held) ≡ [])

abbrev pub decreases-each : goal.decreases-each
decreases-each l = length l.held - l.count
