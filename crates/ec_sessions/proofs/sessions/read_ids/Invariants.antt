use Rattle.std.proofs.Common.{drop}
use Rattle.ec_sessions.specs.Slots.{all_unspent}
use Rattle.ec_sessions.specs.SlotChecks.{AreIds}
use Rattle.ec_sessions.proofs.sessions.read_ids.Given as goal

abbrev pub invariant-loop-slot : goal.invariant-loop-slot
invariant-loop-slot l = AreIds (all_unspent (drop l.slot-index l.slots)) → AreIds (all_unspent l.slots)
