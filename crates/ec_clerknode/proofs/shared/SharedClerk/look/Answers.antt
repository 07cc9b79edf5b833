use Rattle.std.proofs.Common.{◌+◌, sym, ap, ◌∙◌, subst}
use mathlib.Core.List.{IsPrefix}
use Rattle.ec_lock.specs.Steps.{of}
use Rattle.ec_clerknode.specs.Run.{old_boot}
use Rattle.ec_clerknode.specs.Turns.{number_of}
use Rattle.ec_clerknode.proofs.Turns.{turned}
use Rattle.ec_clerknode.proofs.shared.SharedClerk.look.Goals as goal
use Rattle.ec_base.proofs.Lists.{prefix_self}

pub end-requires-clause-later : goal.end-requires-clause-later
end-requires-clause-later g c κs within = subst (λ l. IsPrefix l c.enter-turn.result.value.trace.items) (sym c.enter-turn.ensures.front) (prefix_self c.enter-turn.result.value.trace.items)

pub end-requires-clause-own : goal.end-requires-clause-own
end-requires-clause-own g c κs within n other = ap (of number_of n) c.enter-turn.ensures.front

pub returns-clause-turned : goal.returns-clause-turned
returns-clause-turned g c =
    let v = c.enter-turn.result.value in
    turned (λ l. g.L.Link.faults l + g.L.Link.closes l) g.L.Link.given g.L.Link.got c.args.self.now.lock c.args.pass.now c.enter-turn.new.pass c.end.new.pass v v c.enter-turn.ensures.since c.enter-turn.ensures.later (prefix_self v.trace.items)
    c.enter-turn.ensures.same c.enter-turn.ensures.mark c.end.ensures.pass c.end.ensures.front c.end.ensures.stays c.end.ensures.raises c.enter-turn.ensures.front c.enter-turn.ensures.own
    (λ n other. ap (of number_of n) c.enter-turn.ensures.front)

pub returns-clause-own : goal.returns-clause-own
returns-clause-own g c n m = c.enter-turn.ensures.own n m ∙ ap (of number_of n) (sym c.end.ensures.front)

pub returns-clause-old_boot : goal.returns-clause-old_boot
returns-clause-old_boot g c = let since = c.enter-turn.ensures.since in ap (λ n. n.boot) (c.deref.ensures ∙ c.node.view_is) ∙ (since.old ∙ ap old_boot (sym c.end.ensures.front))
