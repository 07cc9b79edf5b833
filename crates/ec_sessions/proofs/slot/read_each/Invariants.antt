use Rattle.std.proofs.Common.{drop}
use Rattle.ec_sessions.specs.SlotChecks.{AreIds}
use Rattle.ec_sessions.proofs.slot.read_each.Given as goal

abbrev pub invariant-loop-id : goal.invariant-loop-id
invariant-loop-id l = AreIds (drop l.id-index l.ids) → AreIds l.ids
