use Rattle.std.proofs.Common.{◌≡◌, ◌<◌, ℕ, false, length, take, get_or}
use Rattle.ec_journal.specs.OfLayout.Free.{is_named, free_below}
use Rattle.ec_journal.proofs.layout.free.free_slots.Given as goal

abbrev pub invariant-named : goal.invariant-named
invariant-named l = (length l.is_named.items ≡ l.fn.count) × ((k : ℕ) → k < l.fn.count → get_or l.is_named.items k false ≡ is_named k (take l.slot-index l.named))

abbrev pub invariant-slots : goal.invariant-slots
invariant-slots l = l.free.items ≡ free_below l.slot l.named
