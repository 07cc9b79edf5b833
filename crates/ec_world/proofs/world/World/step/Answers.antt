use Rattle.std.proofs.Common.{ℕ, List, refl, subst}
use Rattle.std.specs.Prelude.{IfErr, OnOk}
use Rattle.ec_protocol.specs.World as machine
use Rattle.ec_protocol.specs.declared.world.World.{World as State}
use Rattle.ec_clerk.specs.OfRunning.Faults.{of_step}
use Rattle.ec_world.specs.Laws.{in_step_stands}
use Rattle.ec_world.specs.StepEnds.{under, behind_arm, Fated, RefusesEvent, IsLeft, as_before}
use Rattle.ec_world.specs.Worlds.{view_of, IsInStep}
use Rattle.ec_world.proofs.Reaching.{leads_known}
use Rattle.ec_world.proofs.Stepped.{answer_ok, answer_in_step, answer_err, answer_counts, answer_left, counts_same}
use Rattle.ec_world.proofs.world.World.step.Goals as goal

pub returns-then-self-clause-left : goal.returns-then-self-clause-left
returns-then-self-clause-left g c = λ told image left. as_before (in_step_stands g.D.Disk.tells (g.D.Disk.view c.args.disk.now) c.args.self.now c.requires told image left)

pub returns-then-self-clause-counts : goal.returns-then-self-clause-counts
returns-then-self-clause-counts g c = counts_same c.args.event (g.D.Disk.counts c.args.disk.now) _ _ (λ failed. cc) refl

pub returns-clause-ok : goal.returns-clause-ok
returns-clause-ok g c =
    let tells = g.D.Disk.tells in
    let before = behind_arm c.args.event (g.D.Disk.counts c.args.disk.now) in
    let behind = g.D.Disk.counts c.happen-done.new.disk in
    let from : State → Type 0 = λ v. OnOk c.happen-done.result (Fated tells v.durable v.shown before behind v.choice (λ fate. machine.happen fate c.args.event v) (under c.happen-done.new.self)) in
    answer_ok c.happen-done.result c.answer.result tells (view_of c.args.self.now).durable (view_of c.args.self.now).shown before behind c.args.self.now.choice (λ fate. machine.happen fate c.args.event (view_of c.args.self.now)) c.happen-done.new.self c.answer.new.self
    (subst from c.begin_step.ensures.value c.happen-done.ensures.ok) c.answer.ensures.ok c.answer.ensures.view

pub returns-clause-reached : goal.returns-clause-reached
returns-clause-reached g c =
    leads_known c.answer.result (λ lines. lines.items) g.D.Disk.tells (behind_arm c.args.event (g.D.Disk.counts c.args.disk.now)) (g.D.Disk.counts c.happen-done.new.disk) c.args.self.now.choice c.args.event (view_of c.args.self.now) c.answer.new.self
    (returns-clause-ok g c)

pub returns-clause-in_step : goal.returns-clause-in_step
returns-clause-in_step g c =
    answer_in_step c.happen-done.result c.answer.result g.D.Disk.tells (g.D.Disk.view c.happen-done.new.disk) c.happen-done.new.self c.answer.new.self c.happen-done.new.self.piece.items
    c.happen-done.ensures.in_step c.answer.ensures.ok c.answer.ensures.same

pub returns-clause-err : goal.returns-clause-err
returns-clause-err g c =
    let tells = g.D.Disk.tells in
    let now = g.D.Disk.view c.happen-done.new.disk in
    let from : State → Type 0 = λ v. IfErr c.happen-done.result (λ why. RefusesEvent (of_step why) (machine.happen machine.runs c.args.event v) v (view_of c.happen-done.new.self) (IsInStep tells now c.happen-done.new.self)) in
    answer_err c.happen-done.result c.answer.result (machine.happen machine.runs c.args.event (view_of c.args.self.now)) (view_of c.args.self.now) tells now c.happen-done.new.self c.answer.new.self
    (subst from c.begin_step.ensures.value c.happen-done.ensures.err) c.answer.ensures.err c.answer.ensures.view c.answer.ensures.same

pub returns-clause-counts : goal.returns-clause-counts
returns-clause-counts g c =
    answer_counts c.happen-done.result c.answer.result c.args.event (g.D.Disk.counts c.args.disk.now) (g.D.Disk.counts c.happen-done.new.disk) c.happen-done.ensures.counts c.answer.ensures.err

pub returns-clause-left : goal.returns-clause-left
returns-clause-left g c =
    let tells = g.D.Disk.tells in
    let now = g.D.Disk.view c.happen-done.new.disk in
    let leaves : State → Type 0 = λ v. tells → (image : List ℕ) → now.may_leave image → IsLeft v.durable (machine.happen machine.runs c.args.event v) image in
    let from : State → Type 0 = λ v. IfErr c.happen-done.result (λ why. leaves v) in
    answer_left c.happen-done.result c.answer.result (leaves (view_of c.args.self.now)) (subst from c.begin_step.ensures.value c.happen-done.ensures.left) c.answer.ensures.err
