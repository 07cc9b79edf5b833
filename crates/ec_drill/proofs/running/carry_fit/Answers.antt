use Rattle.std.proofs.Common.{sym, subst, ◌∙◌, List}
use Rattle.std.specs.Io.KnownBytes.{Appends}
use Rattle.ec_history.specs.declared.shown.Shown.{Shown}
use Rattle.ec_words.specs.OfText.Lines.{text_of}
use Rattle.ec_drill.specs.ArmedSteps.{heard}
use Rattle.ec_drill.specs.Steps.{CutLines}
use Rattle.ec_world.specs.Worlds.{view_of}
use Rattle.ec_world.specs.Laws.{in_step_keeps, in_step_stands}
use Rattle.ec_drill.specs.Script.{machine_line}
use Rattle.ec_drill.proofs.Fits.{line_lost, line_unwritten, line_ended, line_pending, came_stays}
use Rattle.ec_drill.proofs.Heard.{heard_is_later}
use Rattle.ec_drill.proofs.running.carry_fit.Goals as goal

pub returns-in-Err-clause-carried : goal.returns-in-Err-clause-carried
returns-in-Err-clause-carried g c = λ m calm.
    line_lost c.carry_out-carried.result g.D.Disk.tells (heard m (g.D.Disk.counts c.args.disk.now)) (heard m (g.D.Disk.counts c.carry_out-carried.new.disk)) (g.D.Disk.view c.carry_out-carried.new.disk) c.args.means.bound c.args.place.number c.args.place.column (machine_line c.args.line) (view_of c.args.world.now) (view_of c.carry_out-carried.new.world) c.carry_out-carried.new.piece.items c.in-Err.cut (g.K.Sink.held c.args.sink.now) (g.K.Sink.faults c.args.sink.now) (c.carry_out-carried.ensures.carried m calm) (heard_is_later m (g.D.Disk.counts c.args.disk.now) (g.D.Disk.counts c.carry_out-carried.new.disk) _ c.carry_out-carried.ensures.counts) (sym c.line_end.ensures ∙ c.in-Err.is)

pub returns-in-Err-write_lines-clause-carried : goal.returns-in-Err-write_lines-clause-carried
returns-in-Err-write_lines-clause-carried g c = λ m calm.
    line_unwritten c.carry_out-carried.result g.D.Disk.tells (heard m (g.D.Disk.counts c.args.disk.now)) (heard m (g.D.Disk.counts c.carry_out-carried.new.disk)) (g.D.Disk.view c.carry_out-carried.new.disk) c.args.means.bound c.args.place.number c.args.place.column (machine_line c.args.line) (view_of c.args.world.now) (view_of c.carry_out-carried.new.world) c.carry_out-carried.new.piece.items c.in-Ok.ending c.in-Err-write_lines.cut (g.K.Sink.held c.args.sink.now) (g.K.Sink.held c.write_lines.new.sink) (g.K.Sink.faults c.args.sink.now) (g.K.Sink.faults c.write_lines.new.sink) (c.carry_out-carried.ensures.carried m calm) (sym c.line_end.ensures ∙ c.in-Ok.is)
    (subst (λ (p : List Shown). CutLines c.in-Err-write_lines.cut p (g.K.Sink.held c.args.sink.now) (g.K.Sink.held c.write_lines.new.sink) (g.K.Sink.faults c.args.sink.now) (g.K.Sink.faults c.write_lines.new.sink)) c.deref.ensures.value c.in-Err-write_lines.ensures.err)
    (λ told. in_step_stands g.D.Disk.tells (g.D.Disk.view c.carry_out-carried.new.disk) c.carry_out-carried.new.world (came_stays c.carry_out-carried.result c.args.place.number c.args.place.column c.in-Ok.ending _ (sym c.line_end.ensures ∙ c.in-Ok.is) c.carry_out-carried.ensures.in_step) told)

pub returns-then-is_some-clause-in_step : goal.returns-then-is_some-clause-in_step
returns-then-is_some-clause-in_step g c = came_stays c.carry_out-carried.result c.args.place.number c.args.place.column c.in-Ok.ending _ (sym c.line_end.ensures ∙ c.in-Ok.is) c.carry_out-carried.ensures.in_step

pub returns-clause-in_step : goal.returns-clause-in_step
returns-clause-in_step g c = in_step_keeps _ _ _ _ c.pending_end.ensures.same (came_stays c.carry_out-carried.result c.args.place.number c.args.place.column c.in-Ok.ending _ (sym c.line_end.ensures ∙ c.in-Ok.is) c.carry_out-carried.ensures.in_step)

pub returns-then-is_some-clause-carried : goal.returns-then-is_some-clause-carried
returns-then-is_some-clause-carried g c = λ m calm.
    line_ended c.carry_out-carried.result g.D.Disk.tells (heard m (g.D.Disk.counts c.args.disk.now)) (heard m (g.D.Disk.counts c.carry_out-carried.new.disk)) (g.D.Disk.view c.carry_out-carried.new.disk) c.args.means.bound c.args.place.number c.args.place.column (machine_line c.args.line) (view_of c.args.world.now) (view_of c.carry_out-carried.new.world) c.carry_out-carried.new.piece.items c.in-Ok.ending (g.K.Sink.held c.args.sink.now) (g.K.Sink.held c.write_lines.new.sink) (c.carry_out-carried.ensures.carried m calm) (sym c.line_end.ensures ∙ c.in-Ok.is) (sym c.is_some.ensures ∙ c.if-is_some.true)
    (subst (λ (p : List Shown). Appends (g.K.Sink.held c.args.sink.now) (g.K.Sink.held c.write_lines.new.sink) (text_of p)) c.deref.ensures.value c.in_default.ensures.ok)

pub returns-clause-carried : goal.returns-clause-carried
returns-clause-carried g c = λ m calm.
    line_pending c.carry_out-carried.result g.D.Disk.tells (heard m (g.D.Disk.counts c.args.disk.now)) (heard m (g.D.Disk.counts c.carry_out-carried.new.disk)) (g.D.Disk.view c.carry_out-carried.new.disk) c.args.means.bound c.args.place.number c.args.place.column (machine_line c.args.line) (view_of c.args.world.now) (view_of c.carry_out-carried.new.world) (view_of c.pending_end.new.world) c.carry_out-carried.new.piece.items c.in-Ok.ending c.pending_end.result (g.K.Sink.held c.args.sink.now) (g.K.Sink.held c.write_lines.new.sink) (c.carry_out-carried.ensures.carried m calm) (sym c.line_end.ensures ∙ c.in-Ok.is) (sym c.is_some.ensures ∙ c.if-is_some.false) c.pending_end.ensures.end
    (subst (λ (p : List Shown). Appends (g.K.Sink.held c.args.sink.now) (g.K.Sink.held c.write_lines.new.sink) (text_of p)) c.deref.ensures.value c.in_default.ensures.ok)
