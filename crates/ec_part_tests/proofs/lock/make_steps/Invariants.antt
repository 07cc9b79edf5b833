use Rattle.ec_lock.specs.PassViews.{IsPassOf}
use Rattle.ec_part_tests.proofs.lock.make_steps.Given as goal

abbrev pub invariant-loop : goal.invariant-loop
invariant-loop g l = IsPassOf l.lock l.pass
