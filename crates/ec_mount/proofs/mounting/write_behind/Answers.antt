use Rattle.ec_clerknode.specs.LaneRuns.{lists_of}
use Rattle.ec_mount.specs.Shown.{came_text}
use Rattle.ec_mount.proofs.Texts.{behind_ends}
use Rattle.ec_mount.proofs.mounting.write_behind.Goals as goal

pub returns-clause-written : goal.returns-clause-written
returns-clause-written g c text some is =
    let a = c.args.answers.now in
    behind_ends (came_text c.args.rows.now (lists_of a.lanes) a.told.items) text (g.K.Sink.held c.args.sink.now) (g.K.Sink.held c.write_came.new.sink) (g.K.Sink.held c.write_last.new.sink)
    (g.K.Sink.faults c.args.sink.now) (g.K.Sink.faults c.write_came.new.sink) (g.K.Sink.faults c.write_last.new.sink) c.args.status c.write_last.result c.in_default.ensures.written c.write_came.ensures.later (c.write_last.ensures.written text some is)
