use Rattle.std.proofs.Common.{◌≤◌, ◌-◌, length}
use Rattle.ec_journal.proofs.device.blank.Given as goal

abbrev pub invariant-pieces : goal.invariant-pieces
invariant-pieces l = length l.bytes.items ≤ l.size

abbrev pub decreases-pieces : goal.decreases-pieces
decreases-pieces l = l.size - length l.bytes.items
