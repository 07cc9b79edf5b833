use Rattle.std.proofs.Common.{refl, map, Ok, Err}
use Rattle.ec_world.specs.Worlds.{view_of}
use Rattle.ec_drill.specs.ArmedSteps.{heard}
use Rattle.ec_drill.specs.Lines.{read_of}
use Rattle.ec_drill.specs.Steps.{ending_of}
use Rattle.ec_drill.proofs.Ends.{closes_with, cut_short, holds_state}
use Rattle.ec_drill.proofs.Heard.{heard_is_later}
use Rattle.ec_drill.proofs.start.drill_on.Goals as goal

pub returns-in-Err-clause-drilled : goal.returns-in-Err-clause-drilled
returns-in-Err-clause-drilled g c = λ m calm.
    cut_short c.in-Err.cut c.status_of.result g.D.Disk.tells (heard m (g.D.Disk.counts c.args.disk.now)) (heard m (g.D.Disk.counts c.run.new.disk)) (g.D.Disk.view c.run.new.disk) c.args.bound (map read_of c.args.lines.items) (view_of c.args.world.now)
    (g.K.Sink.held c.args.sink.now) (g.K.Sink.held c.run.new.sink) (g.K.Sink.faults c.args.sink.now) (g.K.Sink.faults c.run.new.sink) c.status_of.ensures c.requires.bound (c.in-Err.ensures.ran m calm)

pub returns-in-Ok-close-clause-drilled : goal.returns-in-Ok-close-clause-drilled
returns-in-Ok-close-clause-drilled g c = λ m calm.
    closes_with (Ok c.in-Ok-close.status) c.in-Ok-close.status g.D.Disk.tells (heard m (g.D.Disk.counts c.args.disk.now)) (heard m (g.D.Disk.counts c.run.new.disk)) (heard m (g.D.Disk.counts c.close.new.disk)) (g.D.Disk.view c.close.new.disk)
    c.args.bound (map read_of c.args.lines.items) (view_of c.args.world.now) (ending_of c.in-Ok.ending) (view_of c.run.new.world) (view_of c.close.new.world)
    (g.K.Sink.held c.args.sink.now) (g.K.Sink.held c.run.new.sink) (g.K.Sink.held c.close.new.sink) (g.K.Sink.faults c.args.sink.now) (g.K.Sink.faults c.run.new.sink) (g.K.Sink.faults c.close.new.sink)
    refl c.requires.bound (c.in-Ok.ensures.ran m calm) (heard_is_later m (g.D.Disk.counts c.args.disk.now) (g.D.Disk.counts c.run.new.disk) _ c.run.ensures.counts) (heard_is_later m (g.D.Disk.counts c.run.new.disk) (g.D.Disk.counts c.close.new.disk) _ c.close.ensures.counts) c.run.ensures.later c.in-Ok-close.ensures.closed
    (holds_state g.D.Disk.tells (g.D.Disk.view c.close.new.disk) c.close.new.world (λ told. g.met.D.Disk.given told c.close.new.disk) c.in-Ok-close.ensures.in_step)

pub returns-in-Err-close-clause-drilled : goal.returns-in-Err-close-clause-drilled
returns-in-Err-close-clause-drilled g c = λ m calm.
    closes_with (Err c.in-Err-close.cut) c.status_of-in-Err-close.result g.D.Disk.tells (heard m (g.D.Disk.counts c.args.disk.now)) (heard m (g.D.Disk.counts c.run.new.disk)) (heard m (g.D.Disk.counts c.close.new.disk)) (g.D.Disk.view c.close.new.disk)
    c.args.bound (map read_of c.args.lines.items) (view_of c.args.world.now) (ending_of c.in-Ok.ending) (view_of c.run.new.world) (view_of c.close.new.world)
    (g.K.Sink.held c.args.sink.now) (g.K.Sink.held c.run.new.sink) (g.K.Sink.held c.close.new.sink) (g.K.Sink.faults c.args.sink.now) (g.K.Sink.faults c.run.new.sink) (g.K.Sink.faults c.close.new.sink)
    c.status_of-in-Err-close.ensures c.requires.bound (c.in-Ok.ensures.ran m calm) (heard_is_later m (g.D.Disk.counts c.args.disk.now) (g.D.Disk.counts c.run.new.disk) _ c.run.ensures.counts) (heard_is_later m (g.D.Disk.counts c.run.new.disk) (g.D.Disk.counts c.close.new.disk) _ c.close.ensures.counts) c.run.ensures.later c.in-Err-close.ensures.closed tt
