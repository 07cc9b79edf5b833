use Rattle.std.proofs.Common.{◌≡◌, ◌++◌, take}
use Rattle.ec_sessions.specs.Slots.{all_unspent}
use Rattle.ec_durable.proofs.well_formed.lists.push_unspent.Given as goal

abbrev pub invariant-slots : goal.invariant-slots
invariant-slots l = l.ids.items ≡ l.fn.ids.items ++ all_unspent (take l.slot-index l.slots)
