use Rattle.std.proofs.Common.{IfNone, sym, ap, ◌∙◌, subst, refl}
use mathlib.Core.List.{IsPrefix}
use Rattle.ec_lock.specs.PassViews.{first, front}
use Rattle.ec_lock.specs.Steps.{of}
use Rattle.ec_servernode.specs.Breaking.{Broken}
use Rattle.ec_servernode.specs.Run.{number_of}
use Rattle.ec_servernode.specs.Node.{Since}
use Rattle.ec_servernode.specs.TurnSteps.{RunsFrom, Finished}
use Rattle.ec_servernode.proofs.Fronts.{finished, broken_then}
use Rattle.ec_servernode.proofs.shared.SharedServer.close.Goals as goal

pub returns-clause-later : goal.returns-clause-later
returns-clause-later g c = subst (IsPrefix (front c.args.pass.now.pass)) (sym c.enter-turn.ensures.front) c.enter-turn.ensures.later

pub returns-clause-own : goal.returns-clause-own
returns-clause-own g c n m = c.enter-turn.ensures.own n m ∙ ap (of number_of n) (sym c.enter-turn.ensures.front)

pub returns-clause-run : goal.returns-clause-run
returns-clause-run g c = let since = c.enter-turn.ensures.since in subst (RunsFrom g.K.Keeper.kept (first c.args.self.lock)) (sym c.enter-turn.ensures.front) since.run

pub returns-clause-finished : goal.returns-clause-finished
returns-clause-finished g c =
    let same = c.into_value-node.ensures in
    let node = c.into_value-node.result in
    let start = first c.args.self.lock in
    let steps = front c.enter-turn.new.pass in
    let since = subst (Since g.K.Keeper.kept g.K.Keeper.counts g.K.Keeper.did g.K.Keeper.broke start) (sym same) c.enter-turn.ensures.since in
    subst (λ s. Finished g.K.Keeper.kept g.K.Keeper.counts g.K.Keeper.did g.K.Keeper.broke start steps s node.keeper) (sym c.unless.ensures)
    (finished g.K.Keeper.kept g.K.Keeper.counts g.K.Keeper.did g.K.Keeper.broke start node steps (c.enter-turn.ensures.front ∙ ap (λ n. n.trace.items) (sym same)) since node.broken refl)

pub returns-clause-wanted : goal.returns-clause-wanted
returns-clause-wanted g c =
    let same = c.into_value-node.ensures in
    let node = c.into_value-node.result in
    let start = first c.args.self.lock in
    let steps = front c.enter-turn.new.pass in
    let since = subst (Since g.K.Keeper.kept g.K.Keeper.counts g.K.Keeper.did g.K.Keeper.broke start) (sym same) c.enter-turn.ensures.since in
    subst (λ s. IfNone s (Broken steps)) (sym c.unless.ensures)
    (broken_then g.K.Keeper.kept g.K.Keeper.counts g.K.Keeper.did g.K.Keeper.broke start node steps (c.enter-turn.ensures.front ∙ ap (λ n. n.trace.items) (sym same)) since node.broken refl)
