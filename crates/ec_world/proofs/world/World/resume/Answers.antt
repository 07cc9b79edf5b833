use Rattle.std.proofs.Common.{◌≡◌, subst}
use Rattle.std.specs.Prelude.{IfErr, OnOk}
use Rattle.ec_protocol.specs.declared.world.World.{World as State}
use Rattle.ec_protocol.specs.Resumes.{resume}
use Rattle.ec_world.specs.Leases.{BeginsNot}
use Rattle.ec_world.specs.StepEnds.{under}
use Rattle.ec_world.specs.Worlds.{view_of}
use Rattle.ec_world.proofs.Leased.{queued_ok, queued_err}
use Rattle.ec_world.proofs.world.World.resume.Goals as goal

pub returns-clause-ok : goal.returns-clause-ok
returns-clause-ok c =
    let begun : State → Type 0 = λ v. OnOk c.begin_behind-done.result (resume c.args.clerk c.args.line c.args.call v ≡ under c.begin_behind-done.new.self) in
    queued_ok c.begin_behind-done.result c.answer.result (resume c.args.clerk c.args.line c.args.call (view_of c.args.self.now)) c.begin_behind-done.new.self c.answer.new.self (subst begun c.begin_step.ensures.value c.begin_behind-done.ensures.ok) c.answer.ensures.ok c.answer.ensures.view

pub returns-clause-err : goal.returns-clause-err
returns-clause-err c =
    let refused : State → Type 0 = λ v. IfErr c.begin_behind-done.result (λ why. BeginsNot why (resume c.args.clerk c.args.line c.args.call v) v (view_of c.begin_behind-done.new.self)) in
    queued_err c.begin_behind-done.result c.answer.result (resume c.args.clerk c.args.line c.args.call (view_of c.args.self.now)) (view_of c.args.self.now) c.begin_behind-done.new.self c.answer.new.self (subst refused c.begin_step.ensures.value c.begin_behind-done.ensures.err) c.answer.ensures.err c.answer.ensures.view
