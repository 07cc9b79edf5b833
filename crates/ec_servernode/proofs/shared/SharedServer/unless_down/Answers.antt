use Rattle.std.proofs.Common.{refl, sym, ap, ◌∙◌, subst}
use mathlib.Core.List.{IsPrefix}
use Rattle.ec_lock.specs.PassViews.{front}
use Rattle.ec_lock.specs.Steps.{of}
use Rattle.ec_servernode.specs.Run.{number_of}
use Rattle.ec_servernode.proofs.Lists.{prefix_self}
use Rattle.ec_servernode.proofs.Served.{pass_is, looked_up, looked_down}
use Rattle.ec_servernode.proofs.Fronts.{same_both}
use Rattle.ec_servernode.proofs.shared.SharedServer.unless_down.Goals as goal

pub leave-requires-clause-turn : goal.leave-requires-clause-turn
leave-requires-clause-turn g c = c.enter-turn.ensures.turn

pub leave-requires-clause-later : goal.leave-requires-clause-later
leave-requires-clause-later g c = subst (λ l. IsPrefix l c.enter-turn.result.value.trace.items) (sym c.enter-turn.ensures.front) (prefix_self c.enter-turn.result.value.trace.items)

pub leave-requires-clause-own : goal.leave-requires-clause-own
leave-requires-clause-own g c n other = ap (of number_of n) c.enter-turn.ensures.front

pub leave-requires-clause-since : goal.leave-requires-clause-since
leave-requires-clause-since g c = c.enter-turn.ensures.since

pub returns-in-Some-clause-pass : goal.returns-in-Some-clause-pass
returns-in-Some-clause-pass g c =
    let v = c.enter-turn.result.value in
    pass_is g.K.Keeper.kept g.K.Keeper.counts g.K.Keeper.did g.K.Keeper.broke c.args.self.now.lock c.args.pass.now (record c.args.pass.now { pass = c.leave.new.pass }) v v c.requires.pass c.leave.ensures.pass (c.leave.ensures.same.0 ∙ c.enter-turn.ensures.same.0)
    c.leave.ensures.front (c.enter-turn.ensures.own c.args.pass.now.pass.number c.requires.pass.is_pass.1) c.enter-turn.ensures.since c.requires.pass.below (λ e. e)

pub returns-in-Some-clause-same : goal.returns-in-Some-clause-same
returns-in-Some-clause-same g c = same_both c.args.pass.now.pass c.enter-turn.new.pass c.leave.new.pass c.enter-turn.ensures.same c.leave.ensures.same

pub returns-in-Some-clause-later : goal.returns-in-Some-clause-later
returns-in-Some-clause-later g c = subst (IsPrefix (front c.args.pass.now.pass)) (sym c.leave.ensures.front) c.enter-turn.ensures.later

pub returns-in-Some-clause-looked : goal.returns-in-Some-clause-looked
returns-in-Some-clause-looked g c =
    let pass = c.args.pass.now.pass in
    let v = c.enter-turn.result.value in
    let since = c.enter-turn.ensures.since in
    looked_down pass.number (front pass) (front c.leave.new.pass) v v c.enter-turn.ensures.later (c.enter-turn.ensures.own pass.number c.requires.pass.is_pass.1) (sym c.leave.ensures.front) since.halt_is _ c.args.otherwise refl c.in-Some.is

pub returns-in-None-clause-pass : goal.returns-in-None-clause-pass
returns-in-None-clause-pass g c =
    let v = c.enter-turn.result.value in
    pass_is g.K.Keeper.kept g.K.Keeper.counts g.K.Keeper.did g.K.Keeper.broke c.args.self.now.lock c.args.pass.now (record c.args.pass.now { pass = c.leave.new.pass }) v v c.requires.pass c.leave.ensures.pass (c.leave.ensures.same.0 ∙ c.enter-turn.ensures.same.0)
    c.leave.ensures.front (c.enter-turn.ensures.own c.args.pass.now.pass.number c.requires.pass.is_pass.1) c.enter-turn.ensures.since c.requires.pass.below (λ e. e)

pub returns-in-None-clause-same : goal.returns-in-None-clause-same
returns-in-None-clause-same g c = same_both c.args.pass.now.pass c.enter-turn.new.pass c.leave.new.pass c.enter-turn.ensures.same c.leave.ensures.same

pub returns-in-None-clause-later : goal.returns-in-None-clause-later
returns-in-None-clause-later g c = subst (IsPrefix (front c.args.pass.now.pass)) (sym c.leave.ensures.front) c.enter-turn.ensures.later

pub returns-in-None-clause-looked : goal.returns-in-None-clause-looked
returns-in-None-clause-looked g c =
    let pass = c.args.pass.now.pass in
    let v = c.enter-turn.result.value in
    let since = c.enter-turn.ensures.since in
    looked_up pass.number (front pass) (front c.leave.new.pass) v v c.enter-turn.ensures.later (c.enter-turn.ensures.own pass.number c.requires.pass.is_pass.1) (sym c.leave.ensures.front) since.halt_is c.args.otherwise refl c.in-None.is
