use Rattle.std.proofs.Common.{◌≡◌, ◌+◌, drop}
use Rattle.ec_sessions.specs.Slots.{reserved}
use Rattle.ec_sessions.proofs.sessions.count_reserved.Given as goal

abbrev pub invariant-loop-slot : goal.invariant-loop-slot
invariant-loop-slot l = l.count + reserved (drop l.slot-index l.slots) ≡ reserved l.slots
