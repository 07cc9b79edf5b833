use Rattle.std.proofs.Common.{sym, subst}
use Rattle.ec_link.specs.Spawns.{faults_of}
use Rattle.ec_lock.specs.PassViews.{first}
use Rattle.ec_serve.specs.ServerRuns.{KeeperEnds}
use Rattle.ec_serve.proofs.Endings.{from_shared, keeper_same}
use Rattle.ec_serve.proofs.serving.serve_started.Goals as goal

pub returns-in-Ok-clause-ends : goal.returns-in-Ok-clause-ends
returns-in-Ok-clause-ends g c =
    let over = c.in-Ok.ensures in
    from_shared g.K.Keeper.kept g.K.Keeper.counts g.K.Keeper.did g.K.Keeper.broke (first c.in-Ok.server.lock) c.args.started.0 c.args.keeper c.args.started.1.sent c.args.to.count c.serve_shared.result.1 c.serve_shared.result.0
    (record { faults = g.N.Net.faults c.args.net.now; bad = g.N.Net.bad c.args.net.now; ended = g.N.Net.ended c.args.net.now; starts = faults_of c.args.spawner.now })
    (record { faults = g.N.Net.faults c.serve_shared.new.net; bad = g.N.Net.bad c.serve_shared.new.net; ended = g.N.Net.ended c.serve_shared.new.net; starts = faults_of c.serve_shared.new.spawner })
    over.server.0 over.server.1 over.boxes c.serve_shared.ensures.ends

pub returns-in-Err-clause-ends : goal.returns-in-Err-clause-ends
returns-in-Err-clause-ends g c = (
  subst (λ k. KeeperEnds g.K.Keeper.kept g.K.Keeper.counts g.K.Keeper.did g.K.Keeper.broke c.args.keeper k) (sym c.in-Err.ensures.err) (keeper_same g.K.Keeper.kept g.K.Keeper.counts g.K.Keeper.did g.K.Keeper.broke c.args.keeper),
  tt,
)
