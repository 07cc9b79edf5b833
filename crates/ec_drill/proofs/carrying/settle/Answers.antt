use Rattle.std.proofs.Common.{refl, sym, ◌∙◌}
use Rattle.ec_world.specs.Worlds.{view_of}
use Rattle.ec_world.specs.Laws.{in_step_keeps, in_step_stands}
use Rattle.ec_drill.specs.ArmedSteps.{heard}
use Rattle.ec_drill.proofs.Carried.{settling, settled, settles_on, settles_not, rested, stays, later_same, later_two, later_still}
use Rattle.ec_drill.proofs.Heard.{heard_fate, heard_later, still_none}
use Rattle.ec_drill.proofs.carrying.settle.Goals as goal

pub returns-in_default-clause-settled : goal.returns-in_default-clause-settled
returns-in_default-clause-settled g c = λ m calm. settled _ _ _ _ _ _ _ _ _ _ _ (c.settling.invariant.0 m calm) (sym c.due.ensures ∙ c.in_default.is)

pub returns-in-Err-clause-settled : goal.returns-in-Err-clause-settled
returns-in-Err-clause-settled g c = λ m calm.
    let first = g.D.Disk.counts c.args.disk.now in
    let old = g.D.Disk.counts c.settling.disk in
    let new = g.D.Disk.counts c.step.new.disk in
    let s = c.in-Err.ensures.stepped in
    settles_not g.D.Disk.tells (heard m first).stops (heard m old) (heard m new) c.args.bound c.settling.left first.armed old.armed
    (view_of c.args.world.now) (view_of c.settling.world) (view_of c.step.new.world) c.args.piece.now.items c.settling.piece.items c.step.new.piece.items
    c.in-Some.number s.0 (c.settling.invariant.0 m calm) (heard_later m first old c.settling.invariant.2.stops) (heard_later m old new c.in-Err.ensures.counts.stops) c.settling-test.true (sym c.due.ensures ∙ c.in-Some.is)
    (heard_fate m s.0 old new (λ e. still_none first.armed old.armed c.settling.invariant.3 (calm e).1) s.1) (g.D.Disk.view c.step.new.disk) c.in-Err.fault s.2 s.3

pub settling-preserved : goal.settling-preserved
settling-preserved g c =
    let first = g.D.Disk.counts c.args.disk.now in
    let old = g.D.Disk.counts c.settling.disk in
    let new = g.D.Disk.counts c.step.new.disk in
    let s = c.in_default-step.ensures.stepped in (
      λ m calm.
          settles_on g.D.Disk.tells (heard m first).stops (heard m old) (heard m new) c.args.bound c.settling.left first.armed old.armed
          (view_of c.args.world.now) (view_of c.settling.world) (view_of c.step.new.world) c.args.piece.now.items c.settling.piece.items c.step.new.piece.items
          c.in-Some.number s.0 (c.settling.invariant.0 m calm) (heard_later m first old c.settling.invariant.2.stops) (heard_later m old new c.in_default-step.ensures.counts.stops) c.settling-test.true (sym c.due.ensures ∙ c.in-Some.is)
          (heard_fate m s.0 old new (λ e. still_none first.armed old.armed c.settling.invariant.3 (calm e).1) s.1) new.armed s.2 s.4,
      c.in_default-step.ensures.in_step,
      later_two _ _ _ _ _ c.settling.invariant.2 c.in_default-step.ensures.counts,
      λ h. c.settling.invariant.3 (c.in_default-step.ensures.quiet refl h),
    )

pub returns-clause-settled : goal.returns-clause-settled
returns-clause-settled g c = λ m calm.
    rested c.end_settling.result _ (g.D.Disk.view c.settling.disk) _ _ _ _ _ _ _ _ _ _ _ _ (c.settling.invariant.0 m calm) c.settling-test.false c.end_settling.ensures.rested
    (λ told. in_step_stands g.D.Disk.tells (g.D.Disk.view c.settling.disk) c.settling.world c.settling.invariant.1 told)

pub returns-clause-in_step : goal.returns-clause-in_step
returns-clause-in_step g c = stays c.end_settling.result _ (in_step_keeps _ _ _ _ c.end_settling.ensures.same c.settling.invariant.1)

pub returns-clause-counts : goal.returns-clause-counts
returns-clause-counts g c = later_still _ _ _ _ c.settling.invariant.2 c.end_settling.ensures.no_fault

pub returns-in_default-clause-quiet : goal.returns-in_default-clause-quiet
returns-in_default-clause-quiet g c = c.settling.invariant.3

pub returns-in-Err-clause-quiet : goal.returns-in-Err-clause-quiet
returns-in-Err-clause-quiet g c = λ h. c.settling.invariant.3 (c.in-Err.ensures.quiet refl h)

pub returns-clause-quiet : goal.returns-clause-quiet
returns-clause-quiet g c = c.settling.invariant.3

pub settling-init : goal.settling-init
settling-init g c =
    let first = g.D.Disk.counts c.args.disk.now in (
      λ m calm. settling g.D.Disk.tells (heard m first).stops (heard m first).stops c.args.bound first.armed (view_of c.args.world.now) c.args.piece.now.items,
      c.requires,
      later_same first,
      λ h. h,
    )
