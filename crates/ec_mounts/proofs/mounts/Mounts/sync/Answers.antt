use Rattle.std.proofs.Common.{◌≤◌, ◌∙◌, length, map, sym, ap, subst}
use Rattle.std.proofs.lemmas.List.{with_items_is}
use Rattle.ec_lock.specs.declared.types.Pass.{Pass}
use Rattle.ec_lock.specs.declared.types.TracedLock.{TracedLock}
use Rattle.ec_clerknode.specs.declared.shared.SharedClerk.{SharedClerk}
use Rattle.ec_clerknode.specs.declared.state.Node.{Node}
use Rattle.ec_clerknode.specs.declared.step.Step.{Step}
use Rattle.ec_mounts.specs.Mounts.{AreSeated, SyncedAll}
use Rattle.ec_mounts.specs.declared.part.Part.{Part}
use Rattle.ec_mounts.proofs.mounts.Mounts.sync.Goals as goal

pub sync_over-requires-clause-seated : goal.sync_over-requires-clause-seated
sync_over-requires-clause-seated g c κs within = rw (c.deref.ensures.value, c.deref_mut.ensures.value) c.requires.seated

pub invariant_of-self : goal.invariant_of-self
invariant_of-self g c =
    let was = c.args.self.now in
    let news = c.sync_over.new.parts in
    let back = with_items_is was.parts news (c.sync_over.auto.parts ∙ c.deref_mut.ensures.len) in
    let same = ap length back ∙ (c.sync_over.auto.parts ∙ ap length c.deref_mut.ensures.value) in
    record { many = same ∙ was.many; few = subst (λ n. n ≤ 256) (sym same) was.few }

pub returns-clause-seated : goal.returns-clause-seated
returns-clause-seated g c =
    let lock_of : SharedClerk g.row.L.Denot g.row.L-Bell.Denot → TracedLock (Node g.row.L.Denot) Step = λ k. k.lock in
    let pass_of : Part g.row.L.Denot g.row.L-Bell.Denot → Pass (Node g.row.L.Denot) Step = λ p. p.pass in
    let was = c.args.self.now in
    let news = c.sync_over.new.parts in
    let back = with_items_is was.parts news (c.sync_over.auto.parts ∙ c.deref_mut.ensures.len) in
    subst (λ l. AreSeated (map lock_of was.clerks.items) (map pass_of l)) (sym back) (rw c.deref.ensures.value at c.sync_over.ensures.seated)

pub returns-clause-synced : goal.returns-clause-synced
returns-clause-synced g c =
    let pass_of : Part g.row.L.Denot g.row.L-Bell.Denot → Pass (Node g.row.L.Denot) Step = λ p. p.pass in
    let was = c.args.self.now in
    let news = c.sync_over.new.parts in
    let back = with_items_is was.parts news (c.sync_over.auto.parts ∙ c.deref_mut.ensures.len) in
    subst (λ l. SyncedAll (map pass_of was.parts.items) (map pass_of l) c.sync_over.result) (sym back) (rw c.deref_mut.ensures.value at c.sync_over.ensures.synced)
