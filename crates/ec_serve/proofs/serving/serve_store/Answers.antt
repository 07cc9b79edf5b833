use Rattle.std.proofs.Common.{rules, ◌≤◌}
use Rattle.ec_link.specs.Spawns.{faults_of}
use Rattle.ec_store.specs.Store.{view_of}
use Rattle.ec_store.specs.declared.store.Store.{Store}
use Rattle.ec_serve.specs.Serve.{Outer}
use Rattle.ec_serve.specs.ServerRuns.{ServesOn}
use Rattle.ec_serve.proofs.serving.serve_store.Goals as goal
use Rattle.ec_base.proofs.Equalities.{moved}

pub returns-clause-counts : goal.returns-clause-counts
returns-clause-counts g c =
    let counts = g.D.Disk.counts in
    let k = c.new-keeper.result in
    let l = c.serve_kept-ending.result.0 in
    moved
    (λ (o : Store) (d x : g.row.D.Denot). ((counts d).faults ≤ (counts x).faults) × ((counts d).stops ≤ (counts x).stops))
    k.store.now k.disk.now l.disk.now c.args.store.now c.args.disk.now c.disk-1.given.0
    c.serve_kept-ending.ensures.counts
    (search rules) (search rules) (search rules)

pub returns-clause-serves : goal.returns-clause-serves
returns-clause-serves g c =
    let tells = g.D.Disk.tells in
    let view = g.D.Disk.view in
    let counts = g.D.Disk.counts in
    let links : Outer = record { faults = g.N.Net.faults c.args.net.now; bad = g.N.Net.bad c.args.net.now; ended = g.N.Net.ended c.args.net.now; starts = faults_of c.args.spawner.now } in
    let later : Outer = record { faults = g.N.Net.faults c.serve_kept-ending.new.net; bad = g.N.Net.bad c.serve_kept-ending.new.net; ended = g.N.Net.ended c.serve_kept-ending.new.net; starts = faults_of c.serve_kept-ending.new.spawner } in
    let k = c.new-keeper.result in
    let l = c.serve_kept-ending.result.0 in
    moved
    (λ (o : Store) (d x : g.row.D.Denot). ServesOn (view_of o) c.args.to.count c.serve_kept-ending.result.1 (record { tells = tells; disk = view d; disk_after = view x; counts = counts d; counts_after = counts x; links = links; links_after = later }))
    k.store.now k.disk.now l.disk.now c.args.store.now c.args.disk.now c.disk-1.given.0
    c.serve_kept-ending.ensures.serves
    (search rules) (search rules) (search rules)
