use Rattle.std.proofs.Common.{◌≡◌, ◌⊎◌, Option, Some, [], refl, sym, ap, ◌∙◌, subst}
use Rattle.std.specs.Prelude.{IfErr}
use mathlib.Core.List.{IsPrefix}
use Rattle.ec_lock.specs.PassViews.{first, front}
use Rattle.ec_lock.specs.Steps.{of}
use Rattle.ec_servernode.specs.Run.{number_of, halted}
use Rattle.ec_servernode.specs.declared.fault.ServeFault.TheVariants as fault
use Rattle.ec_servernode.specs.declared.step.Halt.{Halt}
use Rattle.ec_servernode.proofs.Lists.{prefix_self}
use Rattle.ec_servernode.proofs.Served.{pass_is, adds, no_more_of, open_is}
use Rattle.ec_servernode.proofs.Fronts.{same_both}
use Rattle.ec_servernode.proofs.shared.SharedServer.is_open.Goals as goal

pub leave-requires-clause-turn : goal.leave-requires-clause-turn
leave-requires-clause-turn g c = c.enter-turn.ensures.turn

pub leave-requires-clause-later : goal.leave-requires-clause-later
leave-requires-clause-later g c = subst (λ l. IsPrefix l c.enter-turn.result.value.trace.items) (sym c.enter-turn.ensures.front) (prefix_self c.enter-turn.result.value.trace.items)

pub leave-requires-clause-own : goal.leave-requires-clause-own
leave-requires-clause-own g c n other = ap (of number_of n) c.enter-turn.ensures.front

pub leave-requires-clause-since : goal.leave-requires-clause-since
leave-requires-clause-since g c = c.enter-turn.ensures.since

pub returns-clause-pass : goal.returns-clause-pass
returns-clause-pass g c =
    let v = c.enter-turn.result.value in
    pass_is g.K.Keeper.kept g.K.Keeper.counts g.K.Keeper.did g.K.Keeper.broke c.args.self.now.lock c.args.pass.now (record c.args.pass.now { pass = c.leave.new.pass }) v v c.requires.pass c.leave.ensures.pass (c.leave.ensures.same.0 ∙ c.enter-turn.ensures.same.0)
    c.leave.ensures.front (c.enter-turn.ensures.own c.args.pass.now.pass.number c.requires.pass.is_pass.1) c.enter-turn.ensures.since c.requires.pass.below (λ e. e)

pub returns-clause-same : goal.returns-clause-same
returns-clause-same g c = same_both c.args.pass.now.pass c.enter-turn.new.pass c.leave.new.pass c.enter-turn.ensures.same c.leave.ensures.same

pub returns-clause-later : goal.returns-clause-later
returns-clause-later g c = subst (IsPrefix (front c.args.pass.now.pass)) (sym c.leave.ensures.front) c.enter-turn.ensures.later

pub returns-clause-none : goal.returns-clause-none
returns-clause-none g c =
    let pass = c.args.pass.now.pass in
    let v = c.enter-turn.result.value in
    adds pass.number (front pass) (front c.leave.new.pass) v v c.enter-turn.ensures.later (c.enter-turn.ensures.own pass.number c.requires.pass.is_pass.1) (sym c.leave.ensures.front) c.enter-turn.ensures.since.halt_is [] (no_more_of pass.number v)

pub returns-clause-opened : goal.returns-clause-opened
returns-clause-opened g c = open_is g.K.Keeper.kept g.K.Keeper.counts g.K.Keeper.did g.K.Keeper.broke (first c.args.self.now.lock) c.enter-turn.result.value (front c.leave.new.pass) c.leave.ensures.front c.enter-turn.ensures.since c.args.clerk c.is_open-answer.result c.is_open-answer.ensures.ok

pub returns-clause-err : goal.returns-clause-err
returns-clause-err g c =
    subst (λ (h : Option Halt). IfErr c.is_open-answer.result (λ f. ((f ≡ fault.Down) × ((why : Halt) × (h ≡ Some why))) ⊎ (f ≡ fault.NoMemory)))
    (c.enter-turn.ensures.since.halt_is ∙ ap halted (sym c.leave.ensures.front)) c.is_open-answer.ensures.err
