use Rattle.std.proofs.Common.{sym, subst, ap, List, Err}
use Rattle.std.specs.Io.KnownBytes.{Appends}
use Rattle.ec_base.specs.Outside.{Rose}
use Rattle.ec_disk.specs.Disk.{Counts}
use Rattle.ec_protocol.specs.declared.world.Event.TheVariants.{Restart}
use Rattle.ec_world.specs.Laws.{in_step_rests}
use Rattle.ec_lease_machine.specs.OfWords.Text.{lease_texts}
use Rattle.ec_lease_machine.specs.Leases.{step}
use Rattle.ec_lease_machine.specs.declared.world.LeaseEvent.TheVariants as event
use Rattle.ec_lease_machine.specs.declared.world.LeaseShown.{LeaseShown}
use Rattle.ec_lease.specs.Worlds.{IsInStep, leased}
use Rattle.ec_lease.specs.OfDrill.Steps.{come, own_ending}
use Rattle.ec_lease.specs.OfDrill.Writing.{CutLines}
use Rattle.std.specs.Prelude.{None}
use Rattle.ec_lease.proofs.OfDrill.Closings.{comes_down, comes_up, cut_up, rests_spent, rests_up, runs_unarmed}
use Rattle.ec_lease.proofs.drill.closing.restart_at_end.Goals as goal

pub returns-then-is_spent-clause-closed : goal.returns-then-is_spent-clause-closed
returns-then-is_spent-clause-closed g c = rests_spent (leased c.args.world.now) (own_ending c.args.ending) (g.K.Sink.held c.args.sink.now) (sym c.if-is_spent.ensures)

pub returns-then-not-server_is_stopped-clause-closed : goal.returns-then-not-server_is_stopped-clause-closed
returns-then-not-server_is_stopped-clause-closed g c = rests_up (leased c.args.world.now) (own_ending c.args.ending) (g.K.Sink.held c.args.sink.now) (sym c.if-is_spent.ensures) (sym c.if-not-server_is_stopped.ensures)

pub returns-then-not-server_is_stopped-clause-in_step : goal.returns-then-not-server_is_stopped-clause-in_step
returns-then-not-server_is_stopped-clause-in_step g c = in_step_rests g.D.Disk.tells (g.D.Disk.view c.args.disk.now) (g.D.Disk.view c.disarm.new.self) c.args.world.now.world c.disarm.ensures.rests c.requires

pub step-requires-clause-in_step : goal.step-requires-clause-in_step
step-requires-clause-in_step g c = in_step_rests g.D.Disk.tells (g.D.Disk.view c.args.disk.now) (g.D.Disk.view c.disarm.new.self) c.args.world.now.world c.disarm.ensures.rests c.requires

pub returns-in-Err-clause-closed : goal.returns-in-Err-clause-closed
returns-in-Err-clause-closed g c =
    comes_down c.restart_end.result c.in-Err.fault g.D.Disk.tells (leased c.args.world.now) (leased c.step.new.self) c.step.new.self.piece.items (own_ending c.args.ending) (g.D.Disk.counts c.disarm.new.self) (g.D.Disk.counts c.step.new.disk)
    (IsInStep g.D.Disk.tells (g.D.Disk.view c.step.new.disk) c.step.new.self) (g.K.Sink.held c.args.sink.now) (g.K.Sink.faults c.args.sink.now) (g.D.Disk.counts c.args.disk.now).faults
    c.restart_end.ensures (sym c.if-is_spent.ensures) (sym c.if-not-server_is_stopped.ensures) (ap (λ (k : Counts). k.armed) c.disarm.ensures.disarmed) c.in-Err.ensures.err
    (λ e. subst (λ (k : Counts). Rose k.faults (g.D.Disk.counts c.step.new.disk).faults) c.disarm.ensures.disarmed (c.in-Err.ensures.counts.failed (ap Err e)))

pub returns-in-Err-write_lines-clause-closed : goal.returns-in-Err-write_lines-clause-closed
returns-in-Err-write_lines-clause-closed g c =
    let lines = c.in-Ok.lines.items in
    let x = leased c.args.world.now in
    let y = leased c.step.new.self in
    let up = runs_unarmed g.D.Disk.tells x.world (g.D.Disk.counts c.disarm.new.self) (g.D.Disk.counts c.step.new.disk) (λ fate. step fate (event.World Restart) x) (come None y lines) (ap (λ (k : Counts). k.armed) c.disarm.ensures.disarmed) c.in-Ok.ensures.ok in
    cut_up x y (own_ending c.args.ending) lines c.in-Err-write_lines.cut (g.K.Sink.held c.args.sink.now) (g.K.Sink.held c.write_lines.new.sink) (g.K.Sink.faults c.args.sink.now) (g.K.Sink.faults c.write_lines.new.sink) (g.D.Disk.counts c.args.disk.now).faults (g.D.Disk.counts c.step.new.disk).faults
    (sym c.if-is_spent.ensures) (sym c.if-not-server_is_stopped.ensures) up
    (subst (λ (p : List LeaseShown). CutLines c.in-Err-write_lines.cut p (g.K.Sink.held c.args.sink.now) (g.K.Sink.held c.write_lines.new.sink) (g.K.Sink.faults c.args.sink.now) (g.K.Sink.faults c.write_lines.new.sink)) c.deref.ensures.value c.in-Err-write_lines.ensures.err)

pub returns-clause-closed : goal.returns-clause-closed
returns-clause-closed g c =
    let lines = c.in-Ok.lines.items in
    let x = leased c.args.world.now in
    let y = leased c.step.new.self in
    let up = runs_unarmed g.D.Disk.tells x.world (g.D.Disk.counts c.disarm.new.self) (g.D.Disk.counts c.step.new.disk) (λ fate. step fate (event.World Restart) x) (come None y lines) (ap (λ (k : Counts). k.armed) c.disarm.ensures.disarmed) c.in-Ok.ensures.ok in
    comes_up x y (own_ending c.args.ending) lines (g.K.Sink.held c.args.sink.now) (g.K.Sink.held c.write_lines.new.sink) (sym c.if-is_spent.ensures) (sym c.if-not-server_is_stopped.ensures) up
    (subst (λ (p : List LeaseShown). Appends (g.K.Sink.held c.args.sink.now) (g.K.Sink.held c.write_lines.new.sink) (lease_texts p)) c.deref.ensures.value c.in_default.ensures.ok)
