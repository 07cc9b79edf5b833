use Rattle.std.proofs.Common.{◌+◌, sym, ap, ◌∙◌, subst}
use mathlib.Core.List.{IsPrefix}
use Rattle.ec_lock.specs.PassViews.{first, front}
use Rattle.ec_lock.specs.Steps.{of}
use Rattle.ec_clerknode.specs.Turns.{number_of}
use Rattle.ec_clerknode.proofs.Turns.{turned, losses_told}
use Rattle.ec_clerknode.proofs.shared.SharedClerk.losses.Goals as goal
use Rattle.ec_base.proofs.Lists.{prefix_self}

pub end-requires-clause-later : goal.end-requires-clause-later
end-requires-clause-later g c κs within = subst (λ l. IsPrefix l c.enter-turn.result.value.trace.items) (sym c.enter-turn.ensures.front) (prefix_self c.enter-turn.result.value.trace.items)

pub end-requires-clause-own : goal.end-requires-clause-own
end-requires-clause-own g c κs within n other = ap (of number_of n) c.enter-turn.ensures.front

pub returns-clause-turned : goal.returns-clause-turned
returns-clause-turned g c =
    let v = c.enter-turn.result.value in
    turned (λ l. g.L.Link.faults l + g.L.Link.closes l) g.L.Link.given g.L.Link.got c.args.self.now.lock c.args.pass.now c.enter-turn.new.pass c.end.new.pass v v c.enter-turn.ensures.since c.enter-turn.ensures.later (prefix_self v.trace.items)
    c.enter-turn.ensures.same c.enter-turn.ensures.mark c.end.ensures.pass c.end.ensures.front c.end.ensures.stays c.end.ensures.raises c.enter-turn.ensures.front c.enter-turn.ensures.own
    (λ n other. ap (of number_of n) c.enter-turn.ensures.front)

pub returns-clause-same : goal.returns-clause-same
returns-clause-same g c = let n = c.args.pass.now.number in ap (of number_of n) c.end.ensures.front ∙ sym (c.enter-turn.ensures.own n c.requires.pass.1)

pub returns-clause-ok : goal.returns-clause-ok
returns-clause-ok g c = losses_told (λ l. g.L.Link.faults l + g.L.Link.closes l) g.L.Link.given g.L.Link.got (first c.args.self.now.lock) c.enter-turn.result.value (front c.end.new.pass) c.end.ensures.front c.enter-turn.ensures.since (λ v. v.items) c.losses-lists.result (rw (c.deref.ensures ∙ c.node.view_is) at c.losses-lists.ensures.ok)
