use Rattle.std.proofs.Common.{◌≤◌}
use Rattle.ec_lock.specs.PassViews.{Same}
use Rattle.ec_servernode.specs.TurnSteps.{IsServerPass}
use Rattle.ec_attend.specs.OverLinks.{IsServed}
use Rattle.ec_attend.proofs.connection.take_rest.Given as goal

abbrev pub invariant-loop : goal.invariant-loop
invariant-loop g l =
    IsServerPass g.K.Keeper.kept l.server.lock l.pass
    × Same l.fn.pass.pass l.pass.pass × IsServed g.L.Link.given g.L.Link.got l.pass.pass l.link × (1 ≤ g.L.Link.faults l.link)
