-- What a call of the clerk comes to, as a step or as a mark.
use Rattle.std.proofs.Common.{◌≡◌, ℕ, ◌+◌, false, List, [], ◌∷◌, Option, None, Some, IfSome, refl, sym, ap, ◌∙◌, subst}
use Rattle.std.specs.declared.snapshot.Snapshot.{Snapshot}
use Rattle.ec_base.specs.declared.counter.Counter.{Counter}
use Rattle.ec_log.specs.declared.state.Asked.{Asked}
use Rattle.ec_plain.specs.declared.call.Call.{Call}
use Rattle.ec_protocol.specs.declared.clerk.Clerk.{Clerk}
use Rattle.ec_protocol.specs.declared.clerk.Out.{Out}
use Rattle.ec_clerknode.specs.declared.act.Act.{Act}
use Rattle.ec_clerknode.specs.declared.fault.NodeFault.{NodeFault}
use Rattle.ec_clerknode.specs.declared.fault.NodeFault.TheVariants as fault
use Rattle.ec_clerknode.specs.declared.step.Deed.{Deed}
use Rattle.ec_clerknode.specs.declared.step.Deed.TheVariants.{Began, Picked, Parted, Resent, NotBegun, NotPicked}
use Rattle.ec_clerknode.specs.Folded.{begun, picked, parted, resent}
use Rattle.ec_clerknode.specs.FoldedAnswers.{ComesOut}
use Rattle.ec_clerknode.specs.Run.{after, outs_of, IsDeed, mark_of_deed}
use Rattle.ec_clerknode.specs.Parts.{is_linked}
use Rattle.ec_clerknode.specs.Closed.{Acts, IsOwn}

-- the act has this deed, these came out, and this fault follows
abbrev pub IsAct : Act → Deed → List Out → Option NodeFault → Type 0
IsAct act deed outs f = (act.deed ≡ deed) × (act.outs.items ≡ outs) × (act.fault ≡ f)

acts_step : (c k : Clerk) (d : Deed) (outs : List Out) (act : Act) → is_linked d ≡ false → IsDeed c d → outs ≡ outs_of c d → k ≡ after c d → IsAct act d outs None → Acts c act k
acts_step c k d outs act own is came moved e = (
  subst (IsDeed c) (sym e.0) is,
  e.1 ∙ (came ∙ ap (outs_of c) (sym e.0)),
  moved ∙ ap (after c) (sym e.0),
  subst (λ o. IfSome o (λ f. mark_of_deed act.deed ≡ f ∷ [])) (sym e.2) tt,
  ap is_linked e.0 ∙ own,
)

acts_mark : (c k : Clerk) (d : Deed) (f : NodeFault) (act : Act) → is_linked d ≡ false → IsDeed c d → [] ≡ outs_of c d → c ≡ after c d → mark_of_deed d ≡ f ∷ [] → k ≡ c → IsAct act d [] (Some f) → Acts c act k
acts_mark c k d f act own is none still mark same e = (
  subst (IsDeed c) (sym e.0) is,
  e.1 ∙ (none ∙ ap (outs_of c) (sym e.0)),
  same ∙ (still ∙ ap (after c) (sym e.0)),
  subst (λ o. IfSome o (λ f. mark_of_deed act.deed ≡ f ∷ [])) (sym e.2) (ap mark_of_deed e.0 ∙ mark),
  ap is_linked e.0 ∙ own,
)

own : (act : Act) (d : Deed) → act.deed ≡ d → IsOwn d → IsOwn act.deed
own act d e o = subst IsOwn (sym e) o

module _ (c k : Clerk) (act : Act) where
  pub began : (shot : Snapshot Call) (call : Call) (number : ℕ) (outs : List Out) → shot.value ≡ call → number ≡ c.calls + 1 → ComesOut (begun call c) k outs → IsAct act (Began shot number) outs None → Acts c act k × IsOwn act.deed
  began shot call number outs e next came is =
      let same = ap (λ x. begun x c) e in (
        acts_step c k (Began shot number) outs act refl (next, ap (λ d. d.spent) same ∙ came.2) (sym (ap (λ d. d.outs) same ∙ came.1)) (sym (ap (λ d. d.clerk) same ∙ came.0)) is,
        own act (Began shot number) is.0 (refl, refl),
      )

  pub not_begun : (shot : Snapshot Call) (call : Call) (counter : Counter) → shot.value ≡ call → (begun call c).spent ≡ Some counter → k ≡ c → IsAct act (NotBegun shot counter) [] (Some (fault.Spent counter)) → Acts c act k × IsOwn act.deed
  not_begun shot call counter e spent same is = (
    acts_mark c k (NotBegun shot counter) (fault.Spent counter) act refl (ap (λ x. (begun x c).spent) e ∙ spent) refl refl refl same is,
    own act (NotBegun shot counter) is.0 (refl, refl),
  )

  pub flushed : (shot : Snapshot Asked) (asked : Asked) (outs : List Out) → shot.value ≡ asked → ComesOut (picked asked c) k outs → IsAct act (Picked shot) outs None → Acts c act k × IsOwn act.deed
  flushed shot asked outs e came is =
      let same = ap (λ x. picked x c) e in (
        acts_step c k (Picked shot) outs act refl (ap (λ d. d.spent) same ∙ came.2) (sym (ap (λ d. d.outs) same ∙ came.1)) (sym (ap (λ d. d.clerk) same ∙ came.0)) is,
        own act (Picked shot) is.0 (refl, refl),
      )

  pub not_flushed : (shot : Snapshot Asked) (asked : Asked) (counter : Counter) → shot.value ≡ asked → (picked asked c).spent ≡ Some counter → k ≡ c → IsAct act (NotPicked shot counter) [] (Some (fault.Spent counter)) → Acts c act k × IsOwn act.deed
  not_flushed shot asked counter e spent same is = (
    acts_mark c k (NotPicked shot counter) (fault.Spent counter) act refl (ap (λ x. (picked x c).spent) e ∙ spent) refl refl refl same is,
    own act (NotPicked shot counter) is.0 (refl, refl),
  )

  pub again : (outs : List Out) → ComesOut (resent c) k outs → IsAct act Resent outs None → Acts c act k × IsOwn act.deed
  again outs came is = (acts_step c k Resent outs act refl came.2 (sym came.1) (sym came.0) is, own act Resent is.0 (refl, refl))

  pub left : (outs : List Out) → ComesOut (parted c) k outs → IsAct act Parted outs None → Acts c act k × IsOwn act.deed
  left outs came is = (acts_step c k Parted outs act refl came.2 (sym came.1) (sym came.0) is, own act Parted is.0 (refl, refl))
