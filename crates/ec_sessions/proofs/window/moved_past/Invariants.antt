use Rattle.std.proofs.Common.{◌≡◌, ◌+◌, ◌-◌, ◌≤◌}
use Rattle.ec_sessions.specs.Windows.{moved_past}
use Rattle.ec_sessions.proofs.window.moved_past.Given as goal

abbrev pub invariant-bits : goal.invariant-bits
invariant-bits l = (moved_past (8 - l.counter) l.window.low l.window.mask ≡ moved_past 8 l.fn.low l.fn.mask) × (l.window.low ≤ l.fn.low + l.counter)
