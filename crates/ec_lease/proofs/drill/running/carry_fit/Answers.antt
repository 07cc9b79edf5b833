use Rattle.std.proofs.Common.{sym, subst, ◌∙◌, List}
use Rattle.std.specs.Io.KnownBytes.{Appends}
use Rattle.ec_lease_machine.specs.OfWords.Text.{lease_texts}
use Rattle.ec_lease_machine.specs.declared.world.LeaseShown.{LeaseShown}
use Rattle.ec_lease.specs.Worlds.{leased}
use Rattle.ec_lease.specs.OfDrill.Script.{machine_lease}
use Rattle.ec_lease.specs.OfDrill.Steps.{fault_in}
use Rattle.ec_lease.specs.OfDrill.Writing.{CutLines}
use Rattle.ec_lease.proofs.OfDrill.Fits.{ends_none, line_lost, line_pending, line_unwritten}
use Rattle.ec_lease.proofs.drill.running.carry_fit.Goals as goal

pub returns-in-Err-clause-carried : goal.returns-in-Err-clause-carried
returns-in-Err-clause-carried g c =
    line_lost c.carry_out-carried.result g.D.Disk.tells (g.D.Disk.counts c.args.disk.now) (g.D.Disk.counts c.carry_out-carried.new.disk) c.args.means.bound c.args.place.number c.args.place.column (machine_lease c.args.line) (leased c.args.world.now) (leased c.carry_out-carried.new.world) c.carry_out-carried.new.piece.items c.carry_out-carried.ensures.carried
    c.in-Err.cut (g.K.Sink.held c.args.sink.now) (g.K.Sink.faults c.args.sink.now) c.carry_out-carried.ensures.counts.failed c.in-Err.ensures

pub returns-in-Err-write_lines-clause-carried : goal.returns-in-Err-write_lines-clause-carried
returns-in-Err-write_lines-clause-carried g c =
    line_unwritten c.carry_out-carried.result g.D.Disk.tells (g.D.Disk.counts c.args.disk.now) (g.D.Disk.counts c.carry_out-carried.new.disk) c.args.means.bound c.args.place.number c.args.place.column (machine_lease c.args.line) (leased c.args.world.now) (leased c.carry_out-carried.new.world) c.carry_out-carried.new.piece.items c.carry_out-carried.ensures.carried
    c.in-Err-write_lines.cut (g.K.Sink.held c.args.sink.now) (g.K.Sink.held c.write_lines.new.sink) (g.K.Sink.faults c.args.sink.now) (g.K.Sink.faults c.write_lines.new.sink) c.in-Ok.ensures.0
    (subst (λ (p : List LeaseShown). CutLines c.in-Err-write_lines.cut p (g.K.Sink.held c.args.sink.now) (g.K.Sink.held c.write_lines.new.sink) (g.K.Sink.faults c.args.sink.now) (g.K.Sink.faults c.write_lines.new.sink)) c.deref.ensures.value c.in-Err-write_lines.ensures.err)

pub returns-clause-carried : goal.returns-clause-carried
returns-clause-carried g c =
    line_pending c.carry_out-carried.result g.D.Disk.tells (g.D.Disk.counts c.args.disk.now) (g.D.Disk.counts c.carry_out-carried.new.disk) c.args.means.bound c.args.place.number c.args.place.column (machine_lease c.args.line) (leased c.args.world.now) (leased c.carry_out-carried.new.world) c.carry_out-carried.new.piece.items c.carry_out-carried.ensures.carried
    c.pending_end.result (leased c.pending_end.new.world) (g.K.Sink.held c.args.sink.now) (g.K.Sink.held c.write_lines.new.sink) c.in-Ok.ensures.0
    (ends_none (fault_in c.carry_out-carried.result) c.args.place.number c.args.place.column c.in-Ok.ending c.in-Ok.ensures.1 (sym c.is_some.ensures ∙ c.if-is_some.false)) c.pending_end.ensures.end
    (subst (λ (p : List LeaseShown). Appends (g.K.Sink.held c.args.sink.now) (g.K.Sink.held c.write_lines.new.sink) (lease_texts p)) c.deref.ensures.value c.in_default.ensures.ok)
