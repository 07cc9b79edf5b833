use Rattle.std.proofs.Common.{◌≤◌, ◌∙◌, length, map, sym, ap, subst}
use Rattle.std.proofs.lemmas.List.{with_items_is}
use Rattle.ec_lock.specs.declared.types.Pass.{Pass}
use Rattle.ec_lock.specs.declared.types.TracedLock.{TracedLock}
use Rattle.ec_clerknode.specs.declared.shared.SharedClerk.{SharedClerk}
use Rattle.ec_clerknode.specs.declared.state.Node.{Node}
use Rattle.ec_clerknode.specs.declared.step.Step.{Step}
use Rattle.ec_mounts.specs.Mounts.{AreSeated, AllRest}
use Rattle.ec_mounts.specs.declared.part.Part.{Part}
use Rattle.ec_mounts.proofs.mounts.Mounts.losses.Goals as goal

pub losses_of-requires-clause-few : goal.losses_of-requires-clause-few
losses_of-requires-clause-few g c κs within = rw c.deref_mut.ensures.value c.args.self.now.few

pub losses_of-requires-clause-seated : goal.losses_of-requires-clause-seated
losses_of-requires-clause-seated g c κs within = rw (c.deref.ensures.value, c.deref_mut.ensures.value) c.requires.seated

pub invariant_of-self : goal.invariant_of-self
invariant_of-self g c =
    let was = c.args.self.now in
    let news = c.losses_of.new.parts in
    let back = with_items_is was.parts news (c.losses_of.auto.parts ∙ c.deref_mut.ensures.len) in
    let same = ap length back ∙ (c.losses_of.auto.parts ∙ ap length c.deref_mut.ensures.value) in
    record { many = same ∙ was.many; few = subst (λ n. n ≤ 256) (sym same) was.few }

pub returns-clause-seated : goal.returns-clause-seated
returns-clause-seated g c =
    let lock_of : SharedClerk g.row.L.Denot g.row.L-Bell.Denot → TracedLock (Node g.row.L.Denot) Step = λ k. k.lock in
    let pass_of : Part g.row.L.Denot g.row.L-Bell.Denot → Pass (Node g.row.L.Denot) Step = λ p. p.pass in
    let was = c.args.self.now in
    let news = c.losses_of.new.parts in
    let back = with_items_is was.parts news (c.losses_of.auto.parts ∙ c.deref_mut.ensures.len) in
    subst (λ l. AreSeated (map lock_of was.clerks.items) (map pass_of l)) (sym back) (rw c.deref.ensures.value at c.losses_of.ensures.seated)

pub returns-clause-rest : goal.returns-clause-rest
returns-clause-rest g c =
    let pass_of : Part g.row.L.Denot g.row.L-Bell.Denot → Pass (Node g.row.L.Denot) Step = λ p. p.pass in
    let was = c.args.self.now in
    let news = c.losses_of.new.parts in
    let back = with_items_is was.parts news (c.losses_of.auto.parts ∙ c.deref_mut.ensures.len) in
    subst (λ l. AllRest (map pass_of was.parts.items) (map pass_of l)) (sym back) (rw c.deref_mut.ensures.value at c.losses_of.ensures.rest)
