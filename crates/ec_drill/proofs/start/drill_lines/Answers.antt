use Rattle.std.proofs.Common.{ap, map, Err}
use Rattle.ec_world.specs.Worlds.{view_of}
use Rattle.ec_drill.specs.Arms.{any_arm}
use Rattle.ec_drill.specs.Lines.{read_of}
use Rattle.ec_drill.proofs.Ends.{not_opened, drilled_on}
use Rattle.ec_drill.proofs.Heard.{still_none}
use Rattle.ec_drill.proofs.start.drill_lines.Goals as goal

pub returns-in-Err-clause-drilled : goal.returns-in-Err-clause-drilled
returns-in-Err-clause-drilled g c = λ source given.
    not_opened c.in-Err.fault c.args.max_objects (map read_of c.args.lines.items) c.tell_unopened.result
    (record {
      source = source;
      sink = record { bytes = g.K.Sink.held c.args.sink.now; bytes_after = g.K.Sink.held c.tell_unopened.new.sink; faults = g.K.Sink.faults c.args.sink.now; faults_after = g.K.Sink.faults c.tell_unopened.new.sink };
      store = record { tells = g.D.Disk.tells; disk = g.D.Disk.view c.args.disk.now; disk_after = g.D.Disk.view c.open.new.disk; counts = g.D.Disk.counts c.args.disk.now; counts_after = g.D.Disk.counts c.open.new.disk };
    })
    given c.in-Err.ensures.err (λ told. g.met.D.Disk.given told c.open.new.disk) (λ e. c.in-Err.ensures.counts.failed (ap Err e)) c.tell_unopened.ensures.told

pub returns-clause-drilled : goal.returns-clause-drilled
returns-clause-drilled g c = λ source given.
    let opened = c.in-Ok-open.ensures.ok in
    let unarmed = still_none _ _ c.open.ensures.counts.not_rearmed c.requires.not_armed in
    drilled_on c.args.max_objects (map read_of c.args.lines.items) opened.0 (view_of c.in-Ok-open.world)
    (record {
      source = source;
      sink = record { bytes = g.K.Sink.held c.args.sink.now; bytes_after = g.K.Sink.held c.drill_on-status.new.sink; faults = g.K.Sink.faults c.args.sink.now; faults_after = g.K.Sink.faults c.drill_on-status.new.sink };
      store = record { tells = g.D.Disk.tells; disk = g.D.Disk.view c.args.disk.now; disk_after = g.D.Disk.view c.drill_on-status.new.disk; counts = g.D.Disk.counts c.args.disk.now; counts_after = g.D.Disk.counts c.drill_on-status.new.disk };
    })
    given opened.1 opened.2 (g.D.Disk.counts c.open.new.disk) c.open.ensures.counts.stops_later c.open.ensures.counts.faults_later unarmed c.drill_on-status.result
    (c.drill_on-status.ensures.drilled (any_arm (map read_of c.args.lines.items)) (λ e. (e, unarmed)))
