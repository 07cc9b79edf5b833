use Rattle.std.proofs.Common.{rules, ◌∙◌, ap, sym, Option}
use Rattle.ec_protocol.specs.World.{runs}
use Rattle.ec_protocol.specs.declared.world.Event.{Event}
use Rattle.ec_world.specs.Laws.{in_step_stands}
use Rattle.ec_world.specs.Worlds.{view_of}
use Rattle.ec_drill.specs.Arms.{armed_at}
use Rattle.ec_drill.specs.ArmedSteps.{armed_for}
use Rattle.ec_drill.specs.Lines.{happens}
use Rattle.ec_drill.specs.Script.{machine_line}
use Rattle.ec_drill.proofs.Carried.{begun_by, begun_not}
use Rattle.ec_drill.proofs.Follows.{arm_still}
use Rattle.ec_drill.proofs.carrying.begin.Goals as goal

pub returns-in-Ok-Some-clause-begun : goal.returns-in-Ok-Some-clause-begun
returns-in-Ok-Some-clause-begun g c =
    let w = view_of c.args.world.now in
    begun_by c.step.result g.D.Disk.tells (g.D.Disk.view c.step.new.disk) (g.D.Disk.counts c.args.disk.now) (g.D.Disk.counts c.step.new.disk) c.args.number (machine_line c.args.line) c.in-Ok-Some.event w (view_of c.step.new.world)
    c.args.piece.now.items c.step.new.piece.items c.requires.empty (λ fate. c.in-Ok-Some.ensures.happens fate ∙ ap (λ (o : Option Event). happens fate o w) c.in-Ok-Some.field-0-is)
    (sym (ap (λ (o : Option Event). armed_for o (g.D.Disk.counts c.args.disk.now).armed) c.in-Ok-Some.field-0-is) ∙ c.in-Ok-Some.ensures.starts (g.D.Disk.counts c.args.disk.now).armed) c.step.ensures.stepped

pub returns-in-Err-clause-begun : goal.returns-in-Err-clause-begun
returns-in-Err-clause-begun g c =
    begun_not c.in-Err.fault g.D.Disk.tells (g.D.Disk.view c.args.disk.now) (g.D.Disk.counts c.args.disk.now) (g.D.Disk.counts c.args.disk.now) c.args.number (machine_line c.args.line) (view_of c.args.world.now) c.args.piece.now.items c.requires.empty
    c.in-Err.ensures.happens.0 c.in-Err.ensures.happens.1 (λ told. in_step_stands g.D.Disk.tells (g.D.Disk.view c.args.disk.now) c.args.world.now c.requires.in_step told)

pub returns-in-Ok-None-clause-begun : goal.returns-in-Ok-None-clause-begun
returns-in-Ok-None-clause-begun g c =
    let armed = (g.D.Disk.counts c.args.disk.now).armed in
    let at = sym (ap (λ (o : Option Event). armed_for o armed) c.in-Ok-None.field-0-is) ∙ c.in-Ok-None.ensures.starts armed in
    (runs, tt, search rules, tt, λ told. arm_still (view_of c.args.world.now) (armed_at (machine_line c.args.line) armed) armed at)
