use Rattle.std.proofs.Common.{sym, ap, ◌∙◌, subst}
use Rattle.ec_lock.specs.PassViews.{first, front}
use Rattle.ec_servernode.specs.Run.{caller_by}
use Rattle.ec_servernode.specs.TurnSteps.{EndsTurn, RunsFrom}
use Rattle.ec_servernode.proofs.Served.{ends_more, own_only, grown, ends, pass_is, since_of}
use Rattle.ec_servernode.proofs.Fronts.{goes, same_both}
use Rattle.ec_servernode.proofs.Safe.{runs-safe}
use Rattle.ec_servernode.proofs.shared.SharedServer.end.Goals as goal

pub end-told-requires : goal.end-told-requires
end-told-requires g c = since_of g.K.Keeper.kept g.K.Keeper.counts g.K.Keeper.did g.K.Keeper.broke c.args.self.now.lock c.enter-turn.result.value c.enter-turn.ensures.since

pub leave-requires-clause-turn : goal.leave-requires-clause-turn
leave-requires-clause-turn g c = c.enter-turn.ensures.turn

pub leave-requires-clause-later : goal.leave-requires-clause-later
leave-requires-clause-later g c =
    let v = c.enter-turn.result.value in
    let w = c.end-told.new.self in
    grown c.number-number.result (front c.enter-turn.new.pass) v w c.enter-turn.ensures.front (ends_more c.number-number.result c.args.clerk v w c.end-told.result c.end-told.ensures.ends)

pub leave-requires-clause-own : goal.leave-requires-clause-own
leave-requires-clause-own g c =
    let v = c.enter-turn.result.value in
    let w = c.end-told.new.self in
    own_only c.number-number.result c.enter-turn.new.pass.number (front c.enter-turn.new.pass) v w c.enter-turn.ensures.front (c.enter-turn.ensures.same.0 ∙ sym c.number-number.ensures)
    (ends_more c.number-number.result c.args.clerk v w c.end-told.result c.end-told.ensures.ends)

pub leave-requires-clause-since : goal.leave-requires-clause-since
leave-requires-clause-since g c = c.end-told.ensures.keeps (first c.args.self.now.lock) c.enter-turn.ensures.since

pub returns-clause-pass : goal.returns-clause-pass
returns-clause-pass g c =
    let own = c.args.pass.now in
    let v = c.enter-turn.result.value in
    let w = c.end-told.new.self in
    let num = c.number-number.ensures in
    pass_is g.K.Keeper.kept g.K.Keeper.counts g.K.Keeper.did g.K.Keeper.broke c.args.self.now.lock own _ v w c.requires.pass c.leave.ensures.pass (c.leave.ensures.same.0 ∙ c.enter-turn.ensures.same.0)
    c.leave.ensures.front (c.enter-turn.ensures.own own.pass.number c.requires.pass.is_pass.1) (c.end-told.ensures.keeps (first c.args.self.now.lock) c.enter-turn.ensures.since)
    c.requires.pass.below
    (λ e. e ∙ (ap (λ n. caller_by n v.trace.items) (sym num) ∙ (sym c.end-told.ensures.caller ∙ ap (λ n. caller_by n w.trace.items) num)))

pub returns-clause-same : goal.returns-clause-same
returns-clause-same g c = same_both c.args.pass.now.pass c.enter-turn.new.pass c.leave.new.pass c.enter-turn.ensures.same c.leave.ensures.same

pub returns-clause-later : goal.returns-clause-later
returns-clause-later g c =
    let v = c.enter-turn.result.value in
    let w = c.end-told.new.self in
    goes c.number-number.result (front c.args.pass.now.pass) (front c.leave.new.pass) v w c.enter-turn.ensures.later (ends_more c.number-number.result c.args.clerk v w c.end-told.result c.end-told.ensures.ends) c.leave.ensures.front

pub returns-clause-ends : goal.returns-clause-ends
returns-clause-ends g c =
    let pass = c.args.pass.now.pass in
    let v = c.enter-turn.result.value in
    let w = c.end-told.new.self in
    let since = c.end-told.ensures.keeps (first c.args.self.now.lock) c.enter-turn.ensures.since in
    ends pass.number (front pass) (front c.leave.new.pass) v w c.enter-turn.ensures.later (c.enter-turn.ensures.own pass.number c.requires.pass.is_pass.1) (sym c.leave.ensures.front) since.halt_is c.args.clerk c.end-told.result
    (subst (λ n. EndsTurn n c.args.clerk v w c.end-told.result) c.number-number.ensures c.end-told.ensures.ends)

pub returns-clause-safe : goal.returns-clause-safe
returns-clause-safe g c =
    let since = c.end-told.ensures.keeps (first c.args.self.now.lock) c.enter-turn.ensures.since in
    runs-safe g.K.Keeper.kept (first c.args.self.now.lock) (front c.leave.new.pass) (subst (RunsFrom g.K.Keeper.kept (first c.args.self.now.lock)) (sym c.leave.ensures.front) since.run)
