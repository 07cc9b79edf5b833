use Rattle.std.proofs.Common.{◌+◌, sym, ap, ◌∙◌, subst}
use mathlib.Core.List.{IsPrefix}
use Rattle.ec_lock.specs.PassViews.{first, front}
use Rattle.ec_lock.specs.Steps.{of}
use Rattle.ec_clerknode.specs.Turns.{number_of}
use Rattle.ec_clerknode.proofs.Nodes.{keeps_lasting}
use Rattle.ec_clerknode.proofs.Turns.{turned}
use Rattle.ec_clerknode.proofs.shared.SharedClerk.lasts.Goals as goal
use Rattle.ec_base.proofs.Lists.{prefix_self}

pub end-requires-clause-later : goal.end-requires-clause-later
end-requires-clause-later g c κs within =
    let v = c.enter-turn.result.value in
    let items = ap (λ n. n.trace.items) (rw (c.deref_mut.ensures.value ∙ c.node.view_is) at c.set_lasts.ensures) in
    subst (λ l. IsPrefix l c.set_lasts.new.self.trace.items) (sym c.enter-turn.ensures.front) (subst (IsPrefix v.trace.items) (sym items) (prefix_self v.trace.items))

pub end-requires-clause-own : goal.end-requires-clause-own
end-requires-clause-own g c κs within n other = ap (of number_of n) (c.enter-turn.ensures.front ∙ sym (ap (λ n. n.trace.items) (rw (c.deref_mut.ensures.value ∙ c.node.view_is) at c.set_lasts.ensures)))

pub end-requires-clause-since : goal.end-requires-clause-since
end-requires-clause-since g c κs within = keeps_lasting (λ l. g.L.Link.faults l + g.L.Link.closes l) g.L.Link.given g.L.Link.got c.enter-turn.result.value c.set_lasts.new.self c.args.lasts (rw (c.deref_mut.ensures.value ∙ c.node.view_is) at c.set_lasts.ensures) (first c.args.self.now.lock) c.enter-turn.ensures.since

pub returns-clause-turned : goal.returns-clause-turned
returns-clause-turned g c =
    let v = c.enter-turn.result.value in
    let w = c.set_lasts.new.self in
    let items = ap (λ n. n.trace.items) (rw (c.deref_mut.ensures.value ∙ c.node.view_is) at c.set_lasts.ensures) in
    turned (λ l. g.L.Link.faults l + g.L.Link.closes l) g.L.Link.given g.L.Link.got c.args.self.now.lock c.args.pass.now c.enter-turn.new.pass c.end.new.pass v w (keeps_lasting (λ l. g.L.Link.faults l + g.L.Link.closes l) g.L.Link.given g.L.Link.got v w c.args.lasts (rw (c.deref_mut.ensures.value ∙ c.node.view_is) at c.set_lasts.ensures) (first c.args.self.now.lock) c.enter-turn.ensures.since) c.enter-turn.ensures.later
    (subst (IsPrefix v.trace.items) (sym items) (prefix_self v.trace.items))
    c.enter-turn.ensures.same c.enter-turn.ensures.mark c.end.ensures.pass c.end.ensures.front c.end.ensures.stays c.end.ensures.raises c.enter-turn.ensures.front c.enter-turn.ensures.own
    (λ n other. ap (of number_of n) (c.enter-turn.ensures.front ∙ sym items))

pub returns-clause-same : goal.returns-clause-same
returns-clause-same g c =
    let n = c.args.pass.now.number in
    ap (of number_of n) (c.end.ensures.front ∙ ap (λ n. n.trace.items) (rw (c.deref_mut.ensures.value ∙ c.node.view_is) at c.set_lasts.ensures)) ∙ sym (c.enter-turn.ensures.own n c.requires.1)
