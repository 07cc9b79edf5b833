use Rattle.ec_world.specs.Worlds.{view_of}
use Rattle.ec_world.specs.Laws.{in_step_stands}
use Rattle.ec_drill.specs.Steps.{ending_of}
use Rattle.ec_drill.proofs.Closings.{tells_last, part_closed, any_ok}
use Rattle.ec_drill.proofs.closing.close.Goals as goal

pub returns-in-Ok-clause-closed : goal.returns-in-Ok-clause-closed
returns-in-Ok-clause-closed g c =
    tells_last g.D.Disk.tells (g.D.Disk.view c.restart_at_end.new.disk) c.tell_last.result (view_of c.args.world.now) (view_of c.restart_at_end.new.world) (ending_of c.args.ending) (ending_of c.in-Ok.ending)
    (g.K.Sink.held c.args.sink.now) (g.K.Sink.held c.restart_at_end.new.sink) (g.K.Sink.held c.tell_last.new.sink)
    (g.K.Sink.faults c.args.sink.now) (g.K.Sink.faults c.restart_at_end.new.sink) (g.K.Sink.faults c.tell_last.new.sink) (g.D.Disk.counts c.args.disk.now).faults (g.D.Disk.counts c.restart_at_end.new.disk).faults
    c.in-Ok.ensures.closed c.in-Ok.ensures.later c.tell_last.ensures.told
    (λ told. in_step_stands g.D.Disk.tells (g.D.Disk.view c.restart_at_end.new.disk) c.restart_at_end.new.world c.in-Ok.ensures.in_step told)

pub returns-in-Ok-clause-in_step : goal.returns-in-Ok-clause-in_step
returns-in-Ok-clause-in_step g c = any_ok c.tell_last.result _ c.in-Ok.ensures.in_step

pub returns-in-Err-clause-closed : goal.returns-in-Err-clause-closed
returns-in-Err-clause-closed g c =
    part_closed g.D.Disk.tells (g.D.Disk.view c.restart_at_end.new.disk) (view_of c.args.world.now) (ending_of c.args.ending) c.in-Err.cut (g.K.Sink.held c.args.sink.now) (g.K.Sink.held c.restart_at_end.new.sink)
    (g.K.Sink.faults c.args.sink.now) (g.K.Sink.faults c.restart_at_end.new.sink) (g.D.Disk.counts c.args.disk.now).faults (g.D.Disk.counts c.restart_at_end.new.disk).faults c.in-Err.ensures.closed
