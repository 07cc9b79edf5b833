-- One volume is reached, or isn't.
use Rattle.std.proofs.Common.{◌≡◌, ◌++◌, ℕ, List, [], ◌∷◌, Option, None, Result, Ok, Err, IfOk, IfErr, ap, ◌∙◌, subst, inr, sym, arith}
use Rattle.ec_protocol.specs.Clerk.{start}
use Rattle.ec_protocol.specs.declared.clerk.Clerk.{Clerk}
use Rattle.ec_protocol.specs.declared.clerk.Out.{Out}
use Rattle.ec_lock.specs.PassViews.{front, numbers, IsPassOf}
use Rattle.ec_lock.specs.declared.types.Pass.{Pass}
use Rattle.ec_lock.specs.declared.types.TracedLock.{TracedLock}
use Rattle.ec_link.specs.Links.{Heard}
use Rattle.ec_clerknode.specs.declared.fault.NodeFault.{NodeFault}
use Rattle.ec_clerknode.specs.declared.fault.NodeFault.TheVariants as fault
use Rattle.ec_clerknode.specs.declared.state.Node.{Node}
use Rattle.ec_clerknode.specs.declared.step.Step.{Step}
use Rattle.ec_mount.specs.Run.{NetSeen, CameUnsent, LostUnsent}
use Rattle.ec_mount.specs.Work.{NotGreeted, Took}
use Rattle.ec_mount_table.specs.Going.{Greeted, NotReached}

-- the link was called before this
came_from : (outs : List Out) (before called now : NetSeen) → (called.bad ≡ before.bad) × (called.ended ≡ before.ended) → CameUnsent outs called now → CameUnsent outs before now
came_from outs before called now same c =
    let few = c.bad in
    record { links = c.links; unsent = c.unsent; ended = c.ended ∙ ap (λ l. l ++ c.links) same.1; bad = omega (arith, few, same.0) }

module _ (id boot : ℕ) (clerk : Clerk) (outs sent : List Out) (before called now : NetSeen) (starts : start id boot ≡ record { clerk = clerk; outs = outs; spent = None }) (are : sent ≡ outs) (same : (called.bad ≡ before.bad) × (called.ended ≡ before.ended)) where
  -- a clerk shares the link that took its greeting
  pub greeted_of : {L M : Type 0} (given : L → Option (List Heard)) (got : L → Option (List (List ℕ))) (link : L) (node_of : M → Node L) (made : Result M NodeFault) → CameUnsent sent called now → Took sent (given link) (got link)
      → IfOk made (λ m. (node_of m).clerk ≡ clerk) → IfOk made (λ m. (node_of m).link ≡ link) → IfOk made (λ m. (node_of m).linker ≡ None) → IfOk made (λ m. Greeted given got id boot (node_of m) before now)
  greeted_of given got link node_of (Err f) came took k l n = tt
  greeted_of given got link node_of (Ok m) came took k l n = record {
    outs = outs;
    starts = subst (λ c. start id boot ≡ record { clerk = c; outs = outs; spent = None }) (sym k) starts;
    came = subst (λ o. CameUnsent o before now) are (came_from sent before called now same came);
    took = subst (λ x. Took outs (given x) (got x)) (sym l) (subst (λ o. Took o (given link) (got link)) are took);
    alone = n;
  }

  pub not_greeted : (f : NodeFault) → NotGreeted sent called now f → NotReached id boot before now f
  unfolding came_from
  not_greeted fault.Net n =
      let few = n.0.bad in
      let some = n.1 in
      inr (omega (arith, few, some, same.0), (clerk, outs, starts, subst (λ o. LostUnsent o before now) are (came_from sent before called now same n.0, n.1)))
  not_greeted (fault.Peer why) n = absurd n
  not_greeted (fault.Long k) n = absurd n
  not_greeted (fault.OldBoot age) n = absurd n
  not_greeted (fault.Spent c) n = absurd n
  not_greeted fault.NoMemory n = tt

-- the pass is of its lock, and made no call
pub passes_of : {L C E : Type 0} (lock_of : C → TracedLock (Node L) Step) (made : Result (C × Pass (Node L) Step) E) → IfOk made (λ m. IsPassOf (lock_of m.0) m.1 × (front m.1 ≡ []) × (m.1.number ≡ 0) × (numbers m.1 ≡ 0 ∷ []))
    → IfOk made (λ m. IsPassOf (lock_of m.0) m.1 × (front m.1 ≡ []) × (m.1.number ≡ 0))
passes_of lock_of (Err f) p = tt
passes_of lock_of (Ok m) p = (p.0, p.1, p.2)

-- memory was wanting
pub wants : {M : Type 0} (id boot : ℕ) (before now : NetSeen) (made : Result M NodeFault) → IfErr made (λ f. f ≡ fault.NoMemory) → IfErr made (NotReached id boot before now)
wants id boot before now (Ok m) e = tt
wants id boot before now (Err f) e = subst (NotReached id boot before now) (sym e) tt
