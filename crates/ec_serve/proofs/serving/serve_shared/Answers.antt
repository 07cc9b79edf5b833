use Rattle.std.proofs.Common.{sym, subst}
use Rattle.ec_link.specs.Spawns.{faults_of}
use Rattle.ec_lock.specs.PassViews.{first, front, numbers}
use Rattle.ec_servernode.specs.Node.{state_of, queue_at}
use Rattle.ec_serve.specs.Serve.{Outer}
use Rattle.ec_serve.specs.ServerRuns.{RanServer}
use Rattle.ec_serve.proofs.Endings.{ends, has_some}
use Rattle.ec_serve.proofs.serving.serve_shared.Goals as goal

pub returns-clause-ends : goal.returns-clause-ends
returns-clause-ends g c =
    let start = first c.args.server.lock in
    let end = c.close-back.ensures in
    let old : Outer = record { faults = g.N.Net.faults c.args.net.now; bad = g.N.Net.bad c.args.net.now; ended = g.N.Net.ended c.args.net.now; starts = faults_of c.args.spawner.now } in
    let later : Outer = record { faults = g.N.Net.faults c.tend-tended.new.net; bad = g.N.Net.bad c.tend-tended.new.net; ended = g.N.Net.ended c.tend-tended.new.net; starts = faults_of c.tend-tended.new.spawner } in
    subst (λ e. RanServer g.K.Keeper.kept g.K.Keeper.counts g.K.Keeper.did g.K.Keeper.broke (state_of g.K.Keeper.kept start) (queue_at start.boxes.items) c.args.to.count e start.keeper c.close-back.result.1 old later) (sym c.ending_of.ensures)
    (ends g.K.Keeper.kept g.K.Keeper.counts g.K.Keeper.did g.K.Keeper.broke start (front c.close-back.new.pass.pass) c.close-back.result.0 c.close-back.result.1 c.close-back.result.2 c.tend-tended.result c.args.to.count c.is_some-is_back.result old later (numbers c.tend-tended.new.pass.pass) (front c.tend-tended.new.pass.pass) end.run end.finished end.halt end.later end.own c.tend-tended.ensures.tends
    (has_some c.close-back.result.0 c.is_some-is_back.result c.is_some-is_back.ensures))
