use Rattle.std.proofs.Common.{◌≤◌, ◌++◌, ◌∷◌, [], ap, sym, subst, length, take, ◌∙◌}
use Rattle.std.specs.Prelude.{T}
use Rattle.ec_volume.specs.Update.{member}
use Rattle.ec_log.proofs.OfChains.Chained.{chain-items, chain-pushed, member-left}
use Rattle.ec_log.proofs.chains.chain.Chain.push.Goals as goal

pub invariant_of-self-2 : goal.invariant_of-self-2
invariant_of-self-2 c =
    chain-pushed c.self.inside.gone c.below-count.result c.args.op c.self.inside.ops.items c.args.self.now c.push.new.self.items c.self.invariant c.self.view_is
    (subst (λ l. c.below-count.result ≤ length l) c.ops.ensures.value c.below-count.ensures.within)
    (λ n t. c.below-count.ensures.lower n (subst (λ l. T (member n (take c.below-count.result l))) (sym c.ops.ensures.value) t))
    (c.in_ok-push.ensures.items ∙ ap (λ l. l ++ c.args.op ∷ []) c.truncate.ensures.items)

pub returns-clause-old : goal.returns-clause-old
returns-clause-old c = λ n l t.
    subst (λ l. T (member n l))
    (sym (chain-items c.self.inside.gone c.below-count.result c.args.op c.self.inside.ops.items c.args.self.now c.push.new.self.items c.self.invariant.0 c.self.view_is
    (subst (λ l. c.below-count.result ≤ length l) c.ops.ensures.value c.below-count.ensures.within)
    (c.in_ok-push.ensures.items ∙ ap (λ l. l ++ c.args.op ∷ []) c.truncate.ensures.items)))
    (member-left n (take c.below-count.result c.args.self.now) (c.args.op ∷ [])
    (subst (λ xs. T (member n (take c.below-count.result xs))) c.ops.ensures.value (c.below-count.ensures.members n l (subst (λ xs. T (member n xs)) (sym c.ops.ensures.value) t))))
