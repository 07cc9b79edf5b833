use Rattle.ec_servernode.specs.TurnSteps.{IsServerPass}
use Rattle.ec_echo_tests.proofs.refusing.fronts_are_refused.Given as goal

abbrev pub invariant-loop-count : goal.invariant-loop-count
invariant-loop-count g l = IsServerPass g.K.Keeper.kept l.server.lock l.pass
