use Rattle.std.proofs.Common.{None}
use Rattle.ec_mount.specs.Calls.{Flushed}
use Rattle.ec_mount.proofs.calls.flush_all.Given as goal

abbrev pub invariant-loop : goal.invariant-loop
invariant-loop g l = (goal.iterator-loop g).can_next l.iterator' × (goal.iterator-loop g).is_finite l.iterator' × Flushed l.clerk.lock l.fn.pass l.own None
