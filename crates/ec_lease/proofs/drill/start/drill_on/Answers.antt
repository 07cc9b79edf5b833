use Rattle.std.proofs.Common.{inl, inr, map}
use Rattle.ec_lease.specs.Worlds.{leased}
use Rattle.ec_lease.specs.OfDrill.Lines.{read_of}
use Rattle.ec_lease.specs.OfDrill.Steps.{own_ending}
use Rattle.ec_lease.proofs.OfDrill.Ends.{all_on, cut_from, end_cut, ended_from, keeps_state, run_cut}
use Rattle.ec_lease.proofs.drill.start.drill_on.Goals as goal

pub returns-in-Err-clause-drilled : goal.returns-in-Err-clause-drilled
returns-in-Err-clause-drilled g c = λ l e w opened.
    let old = g.D.Disk.counts c.args.disk.now in
    let new = g.D.Disk.counts c.run.new.disk in
    let reads = map read_of c.args.lines.items in
    let held = g.K.Sink.held c.args.sink.now in
    let now = g.K.Sink.held c.run.new.sink in
    let writes = g.K.Sink.faults c.args.sink.now in
    let later = g.K.Sink.faults c.run.new.sink in
    inr (
      c.in-Err.cut,
      c.status_of.ensures,
      run_cut l e c.in-Err.cut g.D.Disk.tells old new c.args.means.bound reads w held now writes later c.requires.bound
          (cut_from l e c.args.means.bound g.D.Disk.tells old new reads w (leased c.args.world.now) c.in-Err.cut held now writes later opened c.in-Err.ensures.ran),
    )

pub returns-in-Ok-close-clause-drilled : goal.returns-in-Ok-close-clause-drilled
returns-in-Ok-close-clause-drilled g c = λ l e w opened.
    let tells = g.D.Disk.tells in
    let old = g.D.Disk.counts c.args.disk.now in
    let mid = g.D.Disk.counts c.run.new.disk in
    let new = g.D.Disk.counts c.close.new.disk in
    let reads = map read_of c.args.lines.items in
    let held = g.K.Sink.held c.args.sink.now in
    let held_mid = g.K.Sink.held c.run.new.sink in
    let now = g.K.Sink.held c.close.new.sink in
    let end = own_ending c.in-Ok.ending in
    let x = leased c.run.new.world in
    inl (all_on l e tells old mid new reads w end x held held_mid now (ended_from l e c.args.means.bound tells old.stops mid.stops reads w (leased c.args.world.now) x end held held_mid opened c.requires.bound c.in-Ok.ensures.ran) c.close.ensures.counts.stops
    c.in-Ok-close.status (leased c.close.new.world) (g.D.Disk.view c.close.new.disk) c.in-Ok-close.ensures.closed
    (keeps_state tells (g.D.Disk.view c.close.new.disk) c.close.new.world (λ told. g.met.D.Disk.given told c.close.new.disk) c.in-Ok-close.ensures.in_step))

pub returns-in-Err-close-clause-drilled : goal.returns-in-Err-close-clause-drilled
returns-in-Err-close-clause-drilled g c = λ l e w opened.
    let tells = g.D.Disk.tells in
    let old = g.D.Disk.counts c.args.disk.now in
    let mid = g.D.Disk.counts c.run.new.disk in
    let new = g.D.Disk.counts c.close.new.disk in
    let reads = map read_of c.args.lines.items in
    let held = g.K.Sink.held c.args.sink.now in
    let held_mid = g.K.Sink.held c.run.new.sink in
    let now = g.K.Sink.held c.close.new.sink in
    let end = own_ending c.in-Ok.ending in
    let x = leased c.run.new.world in
    inr (
      c.in-Err-close.cut,
      c.status_of-in-Err-close.ensures,
      end_cut l e tells old mid new reads w end x held held_mid now (ended_from l e c.args.means.bound tells old.stops mid.stops reads w (leased c.args.world.now) x end held held_mid opened c.requires.bound c.in-Ok.ensures.ran) c.close.ensures.counts.stops
          c.in-Err-close.cut (g.K.Sink.faults c.args.sink.now) (g.K.Sink.faults c.run.new.sink) (g.K.Sink.faults c.close.new.sink) c.run.ensures.later c.run.ensures.counts.faults c.in-Err-close.ensures.closed,
    )
