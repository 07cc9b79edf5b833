use Rattle.std.proofs.Common.{◌+◌, sym, ap, ◌∙◌, subst}
use mathlib.Core.List.{IsPrefix}
use Rattle.ec_lock.specs.PassViews.{first, front}
use Rattle.ec_lock.specs.Steps.{of}
use Rattle.ec_clerknode.specs.NodeSteps.{Since}
use Rattle.ec_clerknode.specs.Run.{old_boot}
use Rattle.ec_clerknode.specs.Turns.{number_of}
use Rattle.ec_clerknode.proofs.Turns.{finished, finished_alone, told_then, said_then, wanted_then, came_all, came_one, links_are}
use Rattle.ec_clerknode.proofs.shared.SharedClerk.close.Goals as goal

pub returns-clause-later : goal.returns-clause-later
returns-clause-later g c = subst (IsPrefix (front c.args.pass.now)) (sym c.enter-turn.ensures.front) c.enter-turn.ensures.later

pub returns-clause-own : goal.returns-clause-own
returns-clause-own g c n m = c.enter-turn.ensures.own n m ∙ ap (of number_of n) (sym c.enter-turn.ensures.front)

pub returns-clause-finished : goal.returns-clause-finished
returns-clause-finished g c =
    let same = c.into_inner-state.ensures ∙ (c.node.view_is ∙ c.into_value-node.ensures) in
    let start = first c.args.self.lock in
    let since = subst (Since (λ l. g.L.Link.faults l + g.L.Link.closes l) g.L.Link.given g.L.Link.got start) (sym same) c.enter-turn.ensures.since in
    finished (λ l. g.L.Link.faults l + g.L.Link.closes l) g.L.Link.given g.L.Link.got start c.into_inner-state.result (front c.enter-turn.new.pass) (c.enter-turn.ensures.front ∙ ap (λ n. n.trace.items) (sym same)) since c.unless_broken.result c.unless_broken.ensures

pub returns-clause-told : goal.returns-clause-told
returns-clause-told g c =
    let same = c.into_inner-state.ensures ∙ (c.node.view_is ∙ c.into_value-node.ensures) in
    let start = first c.args.self.lock in
    let since = subst (Since (λ l. g.L.Link.faults l + g.L.Link.closes l) g.L.Link.given g.L.Link.got start) (sym same) c.enter-turn.ensures.since in
    told_then (λ l. g.L.Link.faults l + g.L.Link.closes l) g.L.Link.given g.L.Link.got start c.into_inner-state.result (front c.enter-turn.new.pass) (c.enter-turn.ensures.front ∙ ap (λ n. n.trace.items) (sym same)) since c.unless_broken.result c.unless_broken.ensures

pub returns-clause-boot : goal.returns-clause-boot
returns-clause-boot g c =
    let same = c.into_inner-state.ensures ∙ (c.node.view_is ∙ c.into_value-node.ensures) in
    let since = c.enter-turn.ensures.since in
    ap (λ n. n.boot) same ∙ (since.old ∙ ap old_boot (sym c.enter-turn.ensures.front))

pub returns-clause-said : goal.returns-clause-said
returns-clause-said g c =
    let same = c.into_inner-state.ensures ∙ (c.node.view_is ∙ c.into_value-node.ensures) in
    let start = first c.args.self.lock in
    let since = subst (Since (λ l. g.L.Link.faults l + g.L.Link.closes l) g.L.Link.given g.L.Link.got start) (sym same) c.enter-turn.ensures.since in
    said_then (λ l. g.L.Link.faults l + g.L.Link.closes l) g.L.Link.given g.L.Link.got start c.into_inner-state.result (front c.enter-turn.new.pass) (c.enter-turn.ensures.front ∙ ap (λ n. n.trace.items) (sym same)) since c.unless_broken.result c.unless_broken.ensures

pub returns-clause-heard : goal.returns-clause-heard
returns-clause-heard g c =
    let same = c.into_inner-state.ensures ∙ (c.node.view_is ∙ c.into_value-node.ensures) in
    let start = first c.args.self.lock in
    let since = subst (Since (λ l. g.L.Link.faults l + g.L.Link.closes l) g.L.Link.given g.L.Link.got start) (sym same) c.enter-turn.ensures.since in
    came_all (λ l. g.L.Link.faults l + g.L.Link.closes l) g.L.Link.given g.L.Link.got start c.into_inner-state.result (front c.enter-turn.new.pass) (c.enter-turn.ensures.front ∙ ap (λ n. n.trace.items) (sym same)) since

pub returns-clause-wanted : goal.returns-clause-wanted
returns-clause-wanted g c =
    let same = c.into_inner-state.ensures ∙ (c.node.view_is ∙ c.into_value-node.ensures) in
    let start = first c.args.self.lock in
    let since = subst (Since (λ l. g.L.Link.faults l + g.L.Link.closes l) g.L.Link.given g.L.Link.got start) (sym same) c.enter-turn.ensures.since in
    wanted_then (λ l. g.L.Link.faults l + g.L.Link.closes l) g.L.Link.given g.L.Link.got start c.into_inner-state.result (front c.enter-turn.new.pass) (c.enter-turn.ensures.front ∙ ap (λ n. n.trace.items) (sym same)) since c.unless_broken.result c.unless_broken.ensures

pub returns-clause-alone : goal.returns-clause-alone
returns-clause-alone g c =
    let same = c.into_inner-state.ensures ∙ (c.node.view_is ∙ c.into_value-node.ensures) in
    let start = first c.args.self.lock in
    let since = subst (Since (λ l. g.L.Link.faults l + g.L.Link.closes l) g.L.Link.given g.L.Link.got start) (sym same) c.enter-turn.ensures.since in
    finished_alone (λ l. g.L.Link.faults l + g.L.Link.closes l) g.L.Link.given g.L.Link.got start c.into_inner-state.result (front c.enter-turn.new.pass) (c.enter-turn.ensures.front ∙ ap (λ n. n.trace.items) (sym same)) since c.unless_broken.result c.unless_broken.ensures

pub returns-clause-links : goal.returns-clause-links
returns-clause-links g c =
    let same = c.into_inner-state.ensures ∙ (c.node.view_is ∙ c.into_value-node.ensures) in
    let start = first c.args.self.lock in
    let since = subst (Since (λ l. g.L.Link.faults l + g.L.Link.closes l) g.L.Link.given g.L.Link.got start) (sym same) c.enter-turn.ensures.since in
    links_are (λ l. g.L.Link.faults l + g.L.Link.closes l) g.L.Link.given g.L.Link.got start c.into_inner-state.result (front c.enter-turn.new.pass) (c.enter-turn.ensures.front ∙ ap (λ n. n.trace.items) (sym same)) since

pub returns-clause-heard_alone : goal.returns-clause-heard_alone
returns-clause-heard_alone g c =
    let same = c.into_inner-state.ensures ∙ (c.node.view_is ∙ c.into_value-node.ensures) in
    let start = first c.args.self.lock in
    let since = subst (Since (λ l. g.L.Link.faults l + g.L.Link.closes l) g.L.Link.given g.L.Link.got start) (sym same) c.enter-turn.ensures.since in
    came_one (λ l. g.L.Link.faults l + g.L.Link.closes l) g.L.Link.given g.L.Link.got start c.into_inner-state.result (front c.enter-turn.new.pass) (c.enter-turn.ensures.front ∙ ap (λ n. n.trace.items) (sym same)) since
