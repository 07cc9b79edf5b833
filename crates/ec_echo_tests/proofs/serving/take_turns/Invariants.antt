use Rattle.ec_servernode.specs.TurnSteps.{IsServerPass}
use Rattle.ec_echo_tests.proofs.serving.take_turns.Given as goal

abbrev pub invariant-loop : goal.invariant-loop
invariant-loop g l = (goal.iterator-loop g).can_next l.iterator' × (goal.iterator-loop g).is_finite l.iterator' × IsServerPass g.K.Keeper.kept l.server.lock l.pass
