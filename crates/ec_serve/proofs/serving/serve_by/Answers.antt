use Rattle.std.proofs.Common.{sym, subst}
use Rattle.ec_link.specs.Spawns.{faults_of}
use Rattle.ec_protocol.specs.Server.{start}
use Rattle.ec_serve.specs.Serve.{Outer}
use Rattle.ec_serve.specs.ServerRuns.{EndsBy}
use Rattle.ec_serve.proofs.Endings.{started, not_started}
use Rattle.ec_serve.proofs.serving.serve_by.Goals as goal

pub returns-in-Ok-clause-ends : goal.returns-in-Ok-clause-ends
returns-in-Ok-clause-ends g c =
    let done = c.in-Ok.ensures in
    started g.K.Keeper.kept g.K.Keeper.counts g.K.Keeper.did g.K.Keeper.broke (start (g.K.Keeper.kept c.args.keeper)) c.args.keeper c.start.new.keeper c.serve_started.result.0 c.in-Ok.started.0 c.in-Ok.started.1 c.args.to.count c.serve_started.result.1
    (record { faults = g.N.Net.faults c.args.net.now; bad = g.N.Net.bad c.args.net.now; ended = g.N.Net.ended c.args.net.now; starts = faults_of c.args.spawner.now })
    (record { faults = g.N.Net.faults c.serve_started.new.net; bad = g.N.Net.bad c.serve_started.new.net; ended = g.N.Net.ended c.serve_started.new.net; starts = faults_of c.serve_started.new.spawner })
    done.ok done.did c.start.ensures.counts.faults_later c.start.ensures.counts.stops_later c.serve_started.ensures.ends

pub returns-in-Err-clause-ends : goal.returns-in-Err-clause-ends
returns-in-Err-clause-ends g c =
    let links : Outer = record { faults = g.N.Net.faults c.args.net.now; bad = g.N.Net.bad c.args.net.now; ended = g.N.Net.ended c.args.net.now; starts = faults_of c.args.spawner.now } in
    subst (λ e. EndsBy g.K.Keeper.kept g.K.Keeper.counts g.K.Keeper.did g.K.Keeper.broke c.args.to.count e c.args.keeper c.start.new.keeper links links) (sym c.unstarted.ensures)
    (not_started g.K.Keeper.kept g.K.Keeper.counts g.K.Keeper.did g.K.Keeper.broke c.in-Err.fault c.start.result c.args.keeper c.start.new.keeper c.args.to.count links links c.in-Err.is c.in-Err.ensures.err c.start.ensures.counts c.in-Err.ensures.keeper)
