use Rattle.std.proofs.Common.{◌++◌, sym, ap, ◌∙◌}
use Rattle.std.proofs.lemmas.List.{map-id}
use Rattle.std.proofs.lemmas.Iterator.Adapters.{YieldsList-from_vec}
use Rattle.std.proofs.lemmas.Iterator.Consumers.{YieldsList-end}
use Rattle.ec_protocol.specs.World.{runs, happen}
use Rattle.ec_world.specs.StepEnds.{behind_arm}
use Rattle.ec_world.specs.Worlds.{view_of, IsInStep}
use Rattle.ec_world.specs.Laws.{in_step_stands}
use Rattle.ec_drill.proofs.Carried.{step_left, told_by}
use Rattle.ec_drill.proofs.Follows.{arm_by, taken}
use Rattle.ec_drill.proofs.Known.{fares}
use Rattle.ec_drill.proofs.Refused.{refused_stays, refused_comes}
use Rattle.ec_drill.proofs.carrying.step.Goals as goal

pub returns-in-Err-clause-in_step : goal.returns-in-Err-clause-in_step
returns-in-Err-clause-in_step g c =
    refused_stays c.in-Err.fault (happen runs c.args.event (view_of c.args.world.now)) (view_of c.args.world.now) (view_of c.step.new.self) (IsInStep g.D.Disk.tells (g.D.Disk.view c.step.new.disk) c.step.new.self) c.in-Err.ensures.err

pub returns-in-Err-clause-stepped : goal.returns-in-Err-clause-stepped
returns-in-Err-clause-stepped g c = (
  runs,
  tt,
  λ told seen.
      refused_comes c.in-Err.fault (happen runs c.args.event (view_of c.args.world.now)) (view_of c.args.world.now) (view_of c.step.new.self) c.args.piece.now.items (IsInStep g.D.Disk.tells (g.D.Disk.view c.step.new.disk) c.step.new.self)
      c.in-Err.ensures.err seen,
  c.in-Err.ensures.left,
  tt,
)

pub returns-in-Err-add-clause-stepped : goal.returns-in-Err-add-clause-stepped
returns-in-Err-add-clause-stepped g c =
    let ok = c.in-Ok.ensures.ok in (
      ok.0,
      fares c.args.event ok.0 _ _ (g.D.Disk.counts c.args.disk.now) (g.D.Disk.counts c.step.new.disk) _ _ (λ wants. cc) ok.1 c.in-Ok.ensures.counts,
      λ told seen. absurd seen,
      λ told.
          step_left (g.D.Disk.view c.step.new.disk) (view_of c.args.world.now).durable (happen ok.0 c.args.event (view_of c.args.world.now)) (view_of c.step.new.self) c.in-Ok.lines.items (ok.2 (told_by ok.0 g.D.Disk.tells told))
          (in_step_stands g.D.Disk.tells (g.D.Disk.view c.step.new.disk) c.step.new.self c.in-Ok.ensures.in_step told),
      tt,
    )

pub returns-clause-stepped : goal.returns-clause-stepped
returns-clause-stepped g c =
    let ok = c.in-Ok.ensures.ok in
    let w = view_of c.args.world.now in
    let v = view_of c.step.new.self in (
      ok.0,
      fares c.args.event ok.0 _ _ (g.D.Disk.counts c.args.disk.now) (g.D.Disk.counts c.step.new.disk) _ _ (λ wants. cc) ok.1 c.in-Ok.ensures.counts,
      λ told.
          let lines = c.in-Ok.lines in
          let gives = c.into_iter-line-iterator.ensures.into_iter_gives in
          let all = YieldsList-end (YieldsList-from_vec lines.items gives.0 (gives.1 ∙ lines.ok.0)) c.adding.yielded c.adding.line-iterator c.adding.yielded_by c.next.result c.next.new.self c.in-None.is c.next.ensures.steps in
          taken (happen ok.0 c.args.event w) w v lines.items c.args.piece.now.items c.adding.piece.items (ok.2 told)
          (c.adding.invariant ∙ ap (λ l. c.args.piece.now.items ++ l) (sym (map-id c.adding.yielded) ∙ all.0)),
      tt,
      λ told. arm_by g.D.Disk.tells ok.0 w v (behind_arm c.args.event (g.D.Disk.counts c.args.disk.now)) (g.D.Disk.counts c.step.new.disk) ok.1 ok.3 told,
    )
