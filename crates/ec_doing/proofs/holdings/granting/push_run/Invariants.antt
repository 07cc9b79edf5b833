use Rattle.std.proofs.Common.{◌≡◌, ◌+◌, ◌-◌, ◌++◌}
use Rattle.ec_sessions.specs.Slots.{run}
use Rattle.ec_doing.proofs.holdings.granting.push_run.Given as goal

abbrev pub invariant-loop-offset : goal.invariant-loop-offset
invariant-loop-offset l = l.ids.items ++ run (l.first + l.offset) (l.count - l.offset) ≡ l.fn.ids.items ++ run l.first l.count
