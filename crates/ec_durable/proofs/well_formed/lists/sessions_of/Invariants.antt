use Rattle.std.proofs.Common.{◌≡◌, take}
use Rattle.ec_durable.specs.WellFormed.{sessions_of}
use Rattle.ec_durable.proofs.well_formed.lists.sessions_of.Given as goal

abbrev pub invariant-slots : goal.invariant-slots
invariant-slots l = l.sessions.items ≡ sessions_of (take l.slot-index l.slots)
