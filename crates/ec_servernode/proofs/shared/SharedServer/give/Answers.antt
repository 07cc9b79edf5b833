use Rattle.std.proofs.Common.{sym, ap, ◌∙◌, subst}
use Rattle.ec_lock.specs.PassViews.{first, front}
use Rattle.ec_servernode.specs.Run.{caller_by}
use Rattle.ec_servernode.specs.Node.{queue_at}
use Rattle.ec_servernode.specs.TurnSteps.{Gives}
use Rattle.ec_servernode.proofs.Served.{gives_more, own_only, grown, gives, pass_is, since_of, caller_of}
use Rattle.ec_servernode.proofs.Fronts.{goes, same_both}
use Rattle.ec_servernode.proofs.shared.SharedServer.give.Goals as goal

pub give-gave-requires-clause-caller : goal.give-gave-requires-clause-caller
give-gave-requires-clause-caller g c κs within =
    let own = c.args.pass.now in
    caller_of g.K.Keeper.kept g.K.Keeper.counts g.K.Keeper.did g.K.Keeper.broke c.args.self.now.lock own c.enter-turn.result.value c.requires.pass (c.enter-turn.ensures.own own.pass.number c.requires.pass.is_pass.1) c.number-number.result c.number-number.ensures

pub give-gave-requires-clause-below : goal.give-gave-requires-clause-below
give-gave-requires-clause-below g c κs within = c.requires.pass.below

pub give-gave-requires-clause-since : goal.give-gave-requires-clause-since
give-gave-requires-clause-since g c κs within = since_of g.K.Keeper.kept g.K.Keeper.counts g.K.Keeper.did g.K.Keeper.broke c.args.self.now.lock c.enter-turn.result.value c.enter-turn.ensures.since

pub leave-requires-clause-turn : goal.leave-requires-clause-turn
leave-requires-clause-turn g c = c.enter-turn.ensures.turn

pub leave-requires-clause-later : goal.leave-requires-clause-later
leave-requires-clause-later g c =
    let v = c.enter-turn.result.value in
    let w = c.give-gave.new.self in
    grown c.number-number.result (front c.enter-turn.new.pass) v w c.enter-turn.ensures.front (gives_more g.L.Link.faults g.L.Link.got c.number-number.result c.args.pass.now.caller v w c.args.link.now c.give-gave.new.link c.give-gave.result c.give-gave.ensures.gives)

pub leave-requires-clause-own : goal.leave-requires-clause-own
leave-requires-clause-own g c =
    let v = c.enter-turn.result.value in
    let w = c.give-gave.new.self in
    own_only c.number-number.result c.enter-turn.new.pass.number (front c.enter-turn.new.pass) v w c.enter-turn.ensures.front (c.enter-turn.ensures.same.0 ∙ sym c.number-number.ensures)
    (gives_more g.L.Link.faults g.L.Link.got c.number-number.result c.args.pass.now.caller v w c.args.link.now c.give-gave.new.link c.give-gave.result c.give-gave.ensures.gives)

pub leave-requires-clause-since : goal.leave-requires-clause-since
leave-requires-clause-since g c = c.give-gave.ensures.keeps (first c.args.self.now.lock) c.enter-turn.ensures.since

pub returns-clause-pass : goal.returns-clause-pass
returns-clause-pass g c =
    let own = c.args.pass.now in
    let v = c.enter-turn.result.value in
    let w = c.give-gave.new.self in
    let num = c.number-number.ensures in
    pass_is g.K.Keeper.kept g.K.Keeper.counts g.K.Keeper.did g.K.Keeper.broke c.args.self.now.lock own _ v w c.requires.pass c.leave.ensures.pass (c.leave.ensures.same.0 ∙ c.enter-turn.ensures.same.0)
    c.leave.ensures.front (c.enter-turn.ensures.own own.pass.number c.requires.pass.is_pass.1) (c.give-gave.ensures.keeps (first c.args.self.now.lock) c.enter-turn.ensures.since)
    c.told_by-pass.ensures.below
    (λ e. c.told_by-pass.ensures.value ∙ (sym c.give-gave.ensures.caller ∙ ap (λ n. caller_by n w.trace.items) num))

pub returns-clause-same : goal.returns-clause-same
returns-clause-same g c = same_both c.args.pass.now.pass c.enter-turn.new.pass c.leave.new.pass c.enter-turn.ensures.same c.leave.ensures.same

pub returns-clause-later : goal.returns-clause-later
returns-clause-later g c =
    let v = c.enter-turn.result.value in
    let w = c.give-gave.new.self in
    goes c.number-number.result (front c.args.pass.now.pass) (front c.leave.new.pass) v w c.enter-turn.ensures.later
    (gives_more g.L.Link.faults g.L.Link.got c.number-number.result c.args.pass.now.caller v w c.args.link.now c.give-gave.new.link c.give-gave.result c.give-gave.ensures.gives) c.leave.ensures.front

pub returns-clause-gives : goal.returns-clause-gives
returns-clause-gives g c =
    let pass = c.args.pass.now.pass in
    let caller = c.args.pass.now.caller in
    let v = c.enter-turn.result.value in
    let w = c.give-gave.new.self in
    let boxes = queue_at (first c.args.self.now.lock).boxes.items in
    let since = c.give-gave.ensures.keeps (first c.args.self.now.lock) c.enter-turn.ensures.since in
    gives pass.number (front pass) (front c.leave.new.pass) v w c.enter-turn.ensures.later (c.enter-turn.ensures.own pass.number c.requires.pass.is_pass.1) (sym c.leave.ensures.front) since.halt_is g.L.Link.faults g.L.Link.got boxes caller c.requires.pass.below
    since.boxes since.owners c.args.link.now c.give-gave.new.link c.give-gave.result
    (subst (λ n. Gives g.L.Link.faults g.L.Link.got n caller v w c.args.link.now c.give-gave.new.link c.give-gave.result) c.number-number.ensures c.give-gave.ensures.gives)
