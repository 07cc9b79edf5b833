use Rattle.std.proofs.Common.{sym, subst, ap, List, Err}
use Rattle.std.specs.Io.KnownBytes.{Appends}
use Rattle.ec_disk.specs.Disk.{Counts}
use Rattle.ec_history.specs.declared.shown.Shown.{Shown}
use Rattle.ec_words.specs.OfText.Lines.{text_of}
use Rattle.ec_protocol.specs.declared.world.Event.TheVariants as event
use Rattle.ec_world.specs.Worlds.{view_of, IsInStep}
use Rattle.ec_world.specs.Laws.{in_step_rests, in_step_stands}
use Rattle.ec_drill.specs.Steps.{ending_of, going, CutLines}
use Rattle.ec_drill.proofs.Closings.{comes_up, cut_within, comes_down, unarmed_step, disarmed_rose}
use Rattle.ec_drill.proofs.closing.restart_at_end.Goals as goal

pub returns-then-not-server_is_stopped-clause-in_step : goal.returns-then-not-server_is_stopped-clause-in_step
returns-then-not-server_is_stopped-clause-in_step g c = in_step_rests g.D.Disk.tells (g.D.Disk.view c.args.disk.now) (g.D.Disk.view c.disarm.new.self) c.args.world.now c.disarm.ensures.rests c.requires

pub step-requires : goal.step-requires
step-requires g c = in_step_rests g.D.Disk.tells (g.D.Disk.view c.args.disk.now) (g.D.Disk.view c.disarm.new.self) c.args.world.now c.disarm.ensures.rests c.requires

pub returns-in-Err-clause-closed : goal.returns-in-Err-clause-closed
returns-in-Err-clause-closed g c =
    comes_down g.D.Disk.tells (g.D.Disk.view c.step.new.disk) c.restart_end.result c.in-Err.fault (view_of c.args.world.now) (view_of c.step.new.self) (ending_of c.args.ending) (IsInStep g.D.Disk.tells (g.D.Disk.view c.step.new.disk) c.step.new.self)
    (g.K.Sink.held c.args.sink.now) (g.K.Sink.faults c.args.sink.now) (g.D.Disk.counts c.args.disk.now).faults (g.D.Disk.counts c.step.new.disk).faults
    c.restart_end.ensures (sym c.if-is_spent.ensures) (sym c.if-not-server_is_stopped.ensures) c.in-Err.ensures.err
    (λ e. disarmed_rose (g.D.Disk.counts c.args.disk.now) (g.D.Disk.counts c.disarm.new.self) (g.D.Disk.counts c.step.new.disk) c.disarm.ensures.disarmed (c.in-Err.ensures.counts.failed (ap Err e)))
    c.in-Err.ensures.left

pub returns-in-Err-write_lines-clause-closed : goal.returns-in-Err-write_lines-clause-closed
returns-in-Err-write_lines-clause-closed g c =
    let lines = c.in-Ok.lines.items in
    let up = unarmed_step g.D.Disk.tells (g.D.Disk.counts c.disarm.new.self) (g.D.Disk.counts c.step.new.disk) event.Restart (view_of c.args.world.now) (going (view_of c.step.new.self) lines) (ap (λ (x : Counts). x.armed) c.disarm.ensures.disarmed) c.in-Ok.ensures.ok in
    cut_within g.D.Disk.tells (g.D.Disk.view c.step.new.disk) (view_of c.args.world.now) (view_of c.step.new.self) (ending_of c.args.ending) c.in-Err-write_lines.cut lines
    (g.K.Sink.held c.args.sink.now) (g.K.Sink.held c.write_lines.new.sink) (g.K.Sink.faults c.args.sink.now) (g.K.Sink.faults c.write_lines.new.sink) (g.D.Disk.counts c.args.disk.now).faults (g.D.Disk.counts c.step.new.disk).faults
    (sym c.if-is_spent.ensures) (sym c.if-not-server_is_stopped.ensures) up
    (subst (λ (p : List Shown). CutLines c.in-Err-write_lines.cut p (g.K.Sink.held c.args.sink.now) (g.K.Sink.held c.write_lines.new.sink) (g.K.Sink.faults c.args.sink.now) (g.K.Sink.faults c.write_lines.new.sink)) c.deref.ensures.value c.in-Err-write_lines.ensures.err)
    (λ told. in_step_stands g.D.Disk.tells (g.D.Disk.view c.step.new.disk) c.step.new.self c.in-Ok.ensures.in_step told)

pub returns-clause-closed : goal.returns-clause-closed
returns-clause-closed g c =
    let lines = c.in-Ok.lines.items in
    let up = unarmed_step g.D.Disk.tells (g.D.Disk.counts c.disarm.new.self) (g.D.Disk.counts c.step.new.disk) event.Restart (view_of c.args.world.now) (going (view_of c.step.new.self) lines) (ap (λ (x : Counts). x.armed) c.disarm.ensures.disarmed) c.in-Ok.ensures.ok in
    comes_up (view_of c.args.world.now) (view_of c.step.new.self) (ending_of c.args.ending) lines (g.K.Sink.held c.args.sink.now) (g.K.Sink.held c.write_lines.new.sink)
    (sym c.if-is_spent.ensures) (sym c.if-not-server_is_stopped.ensures) up
    (subst (λ (p : List Shown). Appends (g.K.Sink.held c.args.sink.now) (g.K.Sink.held c.write_lines.new.sink) (text_of p)) c.deref.ensures.value c.in_default.ensures.ok)
