use Rattle.ec_servernode.specs.TurnSteps.{IsServerPass}
use Rattle.ec_attend.proofs.warden.look.Given as goal

abbrev pub invariant-loop-place : goal.invariant-loop-place
invariant-loop-place g l = IsServerPass g.K.Keeper.kept l.server.lock l.pass
