use Rattle.std.proofs.Common.{◌≡◌, ◌≤◌, [], length, drop}
use Rattle.ec_log.specs.OfChains.Slots.{live}
use Rattle.ec_log.proofs.chains.slots.end_below.Given as goal

abbrev pub invariant-each : goal.invariant-each
invariant-each l = (l.end ≤ length l.held) × (live (drop l.end l.held) ≡ [])

abbrev pub decreases-each : goal.decreases-each
decreases-each l = l.end
