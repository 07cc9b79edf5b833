use Rattle.std.proofs.Common.{ap, map, sym, subst, Err}
use Rattle.ec_lease_machine.specs.declared.world.LeaseWorld.{LeaseWorld}
use Rattle.ec_lease.specs.OfDrill.Lines.{AreTimed, read_of}
use Rattle.ec_lease.proofs.OfDrill.Ends.{ended_drill, not_opened}
use Rattle.ec_lease.proofs.drill.start.drill_lines.Goals as goal

pub drill_on-status-requires-clause-timed : goal.drill_on-status-requires-clause-timed
drill_on-status-requires-clause-timed g c = subst (λ (x : LeaseWorld). AreTimed x.most (map read_of c.args.lines.items)) (sym c.in-Ok-open.ensures.ok.4) c.requires.timed

pub drill_on-status-requires-clause-early : goal.drill_on-status-requires-clause-early
drill_on-status-requires-clause-early g c = ap (λ (x : LeaseWorld). x.now) c.in-Ok-open.ensures.ok.4

pub returns-in-Err-clause-drilled : goal.returns-in-Err-clause-drilled
returns-in-Err-clause-drilled g c = λ left left_after reads reads_after given.
    not_opened c.in-Err.fault c.args.length c.args.most (map read_of c.args.lines.items) c.tell_unopened.result
    (record {
      left = left;
      left_after = left_after;
      reads = reads;
      reads_after = reads_after;
      held = g.K.Sink.held c.args.sink.now;
      held_after = g.K.Sink.held c.tell_unopened.new.sink;
      writes = g.K.Sink.faults c.args.sink.now;
      writes_after = g.K.Sink.faults c.tell_unopened.new.sink;
      tells = g.D.Disk.tells;
      disk = g.D.Disk.view c.args.disk.now;
      disk_after = g.D.Disk.view c.open.new.disk;
      counts = g.D.Disk.counts c.args.disk.now;
      counts_after = g.D.Disk.counts c.open.new.disk;
    })
    given c.in-Err.ensures.err (λ e. c.in-Err.ensures.counts.failed (ap Err e)) c.tell_unopened.ensures.told

pub returns-clause-drilled : goal.returns-clause-drilled
returns-clause-drilled g c = λ left left_after reads reads_after given.
    let opened = c.in-Ok-open.ensures.ok in
    ended_drill c.args.length c.args.most (map read_of c.args.lines.items) opened.0 opened.1
    (record {
      left = left;
      left_after = left_after;
      reads = reads;
      reads_after = reads_after;
      held = g.K.Sink.held c.args.sink.now;
      held_after = g.K.Sink.held c.drill_on-status.new.sink;
      writes = g.K.Sink.faults c.args.sink.now;
      writes_after = g.K.Sink.faults c.drill_on-status.new.sink;
      tells = g.D.Disk.tells;
      disk = g.D.Disk.view c.args.disk.now;
      disk_after = g.D.Disk.view c.drill_on-status.new.disk;
      counts = g.D.Disk.counts c.args.disk.now;
      counts_after = g.D.Disk.counts c.drill_on-status.new.disk;
    })
    given opened.2 opened.3 (g.D.Disk.counts c.open.new.disk) c.open.ensures.counts.stops_later c.open.ensures.counts.faults_later c.drill_on-status.result
    (c.drill_on-status.ensures.drilled c.args.length c.args.most opened.1 opened.4)
