use Rattle.std.proofs.Common.{◌≡◌, ◌++◌}
use Rattle.ec_lease_machine.specs.Leases.{step as stepped}
use Rattle.ec_world.specs.Laws.{in_step_keeps}
use Rattle.ec_lease.specs.Steps.{behind_lease_arm}
use Rattle.ec_lease.specs.Worlds.{IsInStep, ended_with, leased}
use Rattle.ec_lease.proofs.OfDrill.Known.{early, early_stays, stepped_by, taken_so}
use Rattle.ec_lease.proofs.drill.carrying.step.Goals as goal

pub returns-in-Ok-clause-stepped : goal.returns-in-Ok-clause-stepped
returns-in-Ok-clause-stepped g c =
    let x = leased c.args.world.now in
    let y = leased c.step.new.self in
    let old = g.D.Disk.counts c.args.disk.now in
    let new = g.D.Disk.counts c.step.new.disk in
    taken_so c.add_all.result g.D.Disk.tells old.stops new.stops (λ fate. stepped fate c.args.event x) y c.args.piece.now.items c.add_all.new.piece.items c.in-Ok.lines.items
    (stepped_by g.D.Disk.tells x.world c.args.event old new (λ fate. stepped fate c.args.event x) _ c.in-Ok.ensures.ok) c.add_all.ensures.ok c.add_all.ensures.err

pub returns-in-Err-clause-stepped : goal.returns-in-Err-clause-stepped
returns-in-Err-clause-stepped g c =
    let x = leased c.args.world.now in
    early g.D.Disk.tells x.world c.args.event (g.D.Disk.counts c.args.disk.now) (g.D.Disk.counts c.step.new.disk) (λ fate. stepped fate c.args.event x) (IsInStep g.D.Disk.tells (g.D.Disk.view c.step.new.disk) c.step.new.self)
    c.in-Err.fault c.end_early.result (leased c.step.new.self) (leased c.end_early.new.world) c.args.piece.now.items c.end_early.new.piece.items c.step.new.self.piece.items c.in-Err.ensures.err c.end_early.ensures.view c.end_early.ensures.added

pub returns-in-Err-clause-in_step : goal.returns-in-Err-clause-in_step
returns-in-Err-clause-in_step g c =
    let x = leased c.args.world.now in
    early_stays g.D.Disk.tells x.world (behind_lease_arm c.args.event (g.D.Disk.counts c.args.disk.now)) (g.D.Disk.counts c.step.new.disk) (λ fate. stepped fate c.args.event x) (ended_with c.in-Err.fault c.step.new.self)
    (IsInStep g.D.Disk.tells (g.D.Disk.view c.step.new.disk) c.step.new.self) (IsInStep g.D.Disk.tells (g.D.Disk.view c.step.new.disk) c.end_early.new.world) (c.end_early.new.piece.items ≡ c.args.piece.now.items ++ c.step.new.self.piece.items) c.in-Err.fault c.end_early.result
    c.in-Err.ensures.err c.end_early.ensures.added (in_step_keeps g.D.Disk.tells (g.D.Disk.view c.step.new.disk) c.step.new.self.world c.end_early.new.world.world c.end_early.ensures.same)
