use Rattle.std.proofs.Common.{◌≡◌, None, replicate}
use Rattle.ec_sessions.proofs.sessions.Sessions.new.Given as goal

abbrev pub invariant-clerks : goal.invariant-clerks
invariant-clerks l = l.slots.items ≡ replicate l.counter None
