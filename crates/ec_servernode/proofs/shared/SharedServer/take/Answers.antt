use Rattle.std.proofs.Common.{sym, ap, ◌∙◌, subst}
use Rattle.ec_lock.specs.PassViews.{first, front}
use Rattle.ec_servernode.specs.declared.caller.Caller.{Caller}
use Rattle.ec_servernode.specs.Run.{caller_by, sender}
use Rattle.ec_servernode.specs.Steps.{taken_by, told_in}
use Rattle.ec_servernode.specs.TurnSteps.{Takes, TakesMessage}
use Rattle.ec_servernode.proofs.Served.{takes_more, own_only, grown, takes, pass_is, since_of, caller_of}
use Rattle.ec_servernode.proofs.Fronts.{goes, same_both}
use Rattle.ec_servernode.proofs.shared.SharedServer.take.Goals as goal

pub take-taken-requires-clause-from : goal.take-taken-requires-clause-from
take-taken-requires-clause-from g c =
    let own = c.args.pass.now in
    let v = c.enter-turn.result.value in
    let caller = caller_of g.K.Keeper.kept g.K.Keeper.counts g.K.Keeper.did g.K.Keeper.broke c.args.self.now.lock own v c.requires.pass (c.enter-turn.ensures.own own.pass.number c.requires.pass.is_pass.1) c.number-number.result c.number-number.ensures in
    c.sender_of-from.ensures ∙ ap (λ (k : Caller). sender c.args.msg.now k.clerk) caller

pub take-taken-requires-clause-since : goal.take-taken-requires-clause-since
take-taken-requires-clause-since g c = since_of g.K.Keeper.kept g.K.Keeper.counts g.K.Keeper.did g.K.Keeper.broke c.args.self.now.lock c.enter-turn.result.value c.enter-turn.ensures.since

pub leave-requires-clause-turn : goal.leave-requires-clause-turn
leave-requires-clause-turn g c = c.enter-turn.ensures.turn

pub leave-requires-clause-later : goal.leave-requires-clause-later
leave-requires-clause-later g c =
    let v = c.enter-turn.result.value in
    let w = c.take-taken.new.self in
    grown c.number-number.result (front c.enter-turn.new.pass) v w c.enter-turn.ensures.front (takes_more c.number-number.result c.args.body.value.items v w (told_in c.take-taken.result) c.take-taken.ensures.takes)

pub leave-requires-clause-own : goal.leave-requires-clause-own
leave-requires-clause-own g c =
    let v = c.enter-turn.result.value in
    let w = c.take-taken.new.self in
    own_only c.number-number.result c.enter-turn.new.pass.number (front c.enter-turn.new.pass) v w c.enter-turn.ensures.front (c.enter-turn.ensures.same.0 ∙ sym c.number-number.ensures)
    (takes_more c.number-number.result c.args.body.value.items v w (told_in c.take-taken.result) c.take-taken.ensures.takes)

pub leave-requires-clause-since : goal.leave-requires-clause-since
leave-requires-clause-since g c = c.take-taken.ensures.keeps (first c.args.self.now.lock) c.enter-turn.ensures.since

pub returns-clause-pass : goal.returns-clause-pass
returns-clause-pass g c =
    let own = c.args.pass.now in
    let v = c.enter-turn.result.value in
    let w = c.take-taken.new.self in
    let num = c.number-number.ensures in
    pass_is g.K.Keeper.kept g.K.Keeper.counts g.K.Keeper.did g.K.Keeper.broke c.args.self.now.lock own _ v w c.requires.pass c.leave.ensures.pass (c.leave.ensures.same.0 ∙ c.enter-turn.ensures.same.0)
    c.leave.ensures.front (c.enter-turn.ensures.own own.pass.number c.requires.pass.is_pass.1) (c.take-taken.ensures.keeps (first c.args.self.now.lock) c.enter-turn.ensures.since)
    c.taken_by-pass.ensures.below
    (λ e. c.taken_by-pass.ensures.value ∙ (ap (taken_by c.take-taken.result) (e ∙ ap (λ n. caller_by n v.trace.items) (sym num)) ∙ (sym c.take-taken.ensures.caller ∙ ap (λ n. caller_by n w.trace.items) num)))

pub returns-clause-same : goal.returns-clause-same
returns-clause-same g c = same_both c.args.pass.now.pass c.enter-turn.new.pass c.leave.new.pass c.enter-turn.ensures.same c.leave.ensures.same

pub returns-clause-later : goal.returns-clause-later
returns-clause-later g c =
    let v = c.enter-turn.result.value in
    let w = c.take-taken.new.self in
    goes c.number-number.result (front c.args.pass.now.pass) (front c.leave.new.pass) v w c.enter-turn.ensures.later (takes_more c.number-number.result c.args.body.value.items v w (told_in c.take-taken.result) c.take-taken.ensures.takes) c.leave.ensures.front

pub returns-clause-takes : goal.returns-clause-takes
returns-clause-takes g c =
    let pass = c.args.pass.now.pass in
    let v = c.enter-turn.result.value in
    let w = c.take-taken.new.self in
    let since = c.take-taken.ensures.keeps (first c.args.self.now.lock) c.enter-turn.ensures.since in
    subst (TakesMessage pass.number c.args.body.value.items (front pass) (front c.leave.new.pass)) (sym c.told_in.ensures)
    (takes pass.number (front pass) (front c.leave.new.pass) v w c.enter-turn.ensures.later (c.enter-turn.ensures.own pass.number c.requires.pass.is_pass.1) (sym c.leave.ensures.front) since.halt_is c.args.body.value.items (told_in c.take-taken.result)
    (subst (λ n. Takes n c.args.body.value.items v w (told_in c.take-taken.result)) c.number-number.ensures c.take-taken.ensures.takes))
