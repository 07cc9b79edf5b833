use Rattle.ec_link.specs.Spawns.{faults_of}
use Rattle.ec_serve.specs.Serve.{Outer}
use Rattle.ec_serve.proofs.Kept.{kept_same, kept_serves}
use Rattle.ec_serve.proofs.serving.serve_kept.Goals as goal

pub returns-clause-same : goal.returns-clause-same
returns-clause-same g c =
    let links : Outer = record { faults = g.N.Net.faults c.args.net.now; bad = g.N.Net.bad c.args.net.now; ended = g.N.Net.ended c.args.net.now; starts = faults_of c.args.spawner.now } in
    let later : Outer = record { faults = g.N.Net.faults c.serve_by.new.net; bad = g.N.Net.bad c.serve_by.new.net; ended = g.N.Net.ended c.serve_by.new.net; starts = faults_of c.serve_by.new.spawner } in
    kept_same g.D.Disk.tells g.D.Disk.view g.D.Disk.counts c.args.to.count c.serve_by.result.1 c.args.keeper c.serve_by.result.0 links later c.serve_by.ensures.ends

pub returns-clause-counts : goal.returns-clause-counts
returns-clause-counts g c = let ends = c.serve_by.ensures.ends.0 in (ends.faults, ends.stops)

pub returns-clause-serves : goal.returns-clause-serves
returns-clause-serves g c =
    let links : Outer = record { faults = g.N.Net.faults c.args.net.now; bad = g.N.Net.bad c.args.net.now; ended = g.N.Net.ended c.args.net.now; starts = faults_of c.args.spawner.now } in
    let later : Outer = record { faults = g.N.Net.faults c.serve_by.new.net; bad = g.N.Net.bad c.serve_by.new.net; ended = g.N.Net.ended c.serve_by.new.net; starts = faults_of c.serve_by.new.spawner } in
    kept_serves g.D.Disk.tells g.D.Disk.view g.D.Disk.counts c.args.to.count c.serve_by.result.1 c.args.keeper c.serve_by.result.0 links later c.serve_by.ensures.ends (λ told. (g.met.D.Disk g.world.𝓛 g.world.𝓜 g.world.𝓡 (λ s ok. ok, λ patient. patient, λ not solo. not solo, λ cuts. cuts)).given told c.serve_by.result.0.disk.now) c.requires.held
