use Rattle.ec_lock.specs.PassViews.{IsPassOf}
use Rattle.ec_echo_tests.proofs.settling.is_settled.Given as goal

abbrev pub invariant-loop : goal.invariant-loop
invariant-loop g l = (goal.iterator-loop g).can_next l.iterator' × (goal.iterator-loop g).is_finite l.iterator' × IsPassOf l.clerk.lock l.pass
