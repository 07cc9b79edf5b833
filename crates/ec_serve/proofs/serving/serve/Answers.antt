use Rattle.std.proofs.Common.{sym, subst}
use Rattle.ec_link.specs.Spawns.{faults_of}
use Rattle.ec_store.specs.Store.{view_of}
use Rattle.ec_serve.specs.Serve.{Outer, Outside, Serves}
use Rattle.ec_serve.proofs.Served.{serves_on, serves_not}
use Rattle.ec_serve.proofs.serving.serve.Goals as goal

pub returns-in-Err-clause-serves : goal.returns-in-Err-clause-serves
returns-in-Err-clause-serves g c =
    let opened = c.store_on.ensures in
    let links : Outer = record { faults = g.N.Net.faults c.args.net.now; bad = g.N.Net.bad c.args.net.now; ended = g.N.Net.ended c.args.net.now; starts = faults_of c.args.spawner.now } in
    let w : Outside = record { tells = g.D.Disk.tells; disk = g.D.Disk.view c.args.disk.now; disk_after = g.D.Disk.view c.store_on.new.disk; counts = g.D.Disk.counts c.args.disk.now; counts_after = g.D.Disk.counts c.store_on.new.disk; links = links; links_after = links } in
    subst (λ e. Serves c.args.to.count e w) (sym c.unopened.ensures) (serves_not c.args.to.count c.in-Err.fault c.store_on.result w _ c.in-Err.is opened.bad opened.counts)

pub returns-clause-serves : goal.returns-clause-serves
returns-clause-serves g c =
    let links : Outer = record { faults = g.N.Net.faults c.args.net.now; bad = g.N.Net.bad c.args.net.now; ended = g.N.Net.ended c.args.net.now; starts = faults_of c.args.spawner.now } in
    let later : Outer = record { faults = g.N.Net.faults c.serve_store.new.net; bad = g.N.Net.bad c.serve_store.new.net; ended = g.N.Net.ended c.serve_store.new.net; starts = faults_of c.serve_store.new.spawner } in
    let w : Outside = record { tells = g.D.Disk.tells; disk = g.D.Disk.view c.args.disk.now; disk_after = g.D.Disk.view c.serve_store.new.disk; counts = g.D.Disk.counts c.args.disk.now; counts_after = g.D.Disk.counts c.serve_store.new.disk; links = links; links_after = later } in
    serves_on c.args.to.count c.serve_store.result (view_of c.in-Ok.store) w (g.D.Disk.view c.store_on.new.disk) (g.D.Disk.counts c.store_on.new.disk) c.in-Ok.ensures.opens c.store_on.ensures.counts.faults_later c.serve_store.ensures.serves
