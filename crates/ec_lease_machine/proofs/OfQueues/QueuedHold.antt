-- The facts hold in a world behind the line of a call that waits before it begins, and behind the step in which such a call begins.
use Rattle.std.proofs.Common.{◌≡◌, refl, sym, ap, subst, ◌∙◌, inl, inr, ◌+◌, ℕ, T, true, false, ◌==◌, Option, Some, None}
use Rattle.std.specs.Prelude.{is_some}
use Rattle.std.specs.List.{list_any}
use Rattle.ec_base.specs.Tables.{at, put}
use Rattle.ec_base.specs.declared.counter.Counter.{Counter}
use Rattle.ec_plain.specs.declared.call.Call.{Call}
use Rattle.ec_history.specs.Placing.{Agrees, EachLine, Unanswered, is_numbered}
use Rattle.ec_history.specs.declared.shown.Shown.TheVariants as show
use Rattle.ec_protocol.specs.Clerk.{Doing, begin}
use Rattle.ec_protocol.specs.World.{Moving, add_call, clerk_does, come_out, fails, moving, with_world}
use Rattle.ec_protocol.specs.declared.clerk.Clerk.{Clerk}
use Rattle.ec_protocol.specs.declared.world.World.{World}
use Rattle.ec_protocol.specs.declared.world.WorldFault.TheVariants as fault
use Rattle.ec_coherence.specs.System.{System}
use Rattle.ec_coherence.specs.Steps.{Stands, call_of, doing_in}
use Rattle.ec_coherence.specs.StandLaws.{lined}
use Rattle.ec_protocol.specs.Resumes.{resume, resume_on, wait}
use Rattle.ec_lawful.specs.Steps.{HoldsIn, StepIsDone}
use Rattle.ec_lawful.specs.Ties.{called}
use Rattle.ec_lawful.proofs.ForBegins.Called.{new-line}
use Rattle.ec_lawful.proofs.ForWhole.Frames.{added-stands, lined-stands}
use Rattle.ec_lawful.proofs.ForWhole.Standing.{done-stands}
use Rattle.ec_lease_machine.specs.OfQueues.Queued.{MayBegin, MayResume, MayWait, QueuesKeep}
use Rattle.ec_base.proofs.Options.{none_some}
use Rattle.ec_lawful.proofs.Events.{runs-in}
use Rattle.ec_lawful.proofs.StepsLemmas.{new-in}

-- a running clerk's step, behind what its call shows
done : (F : System → Type 0) (m : Moving) (g : System) → Stands m.world g → (c b : ℕ) → g.running c ≡ Some b → (d : Doing) → StepIsDone F g c b d → (clerk_does c d m).fault ≡ None → HoldsIn F (clerk_does c d m).world
done F m g st c b run d (inl s) ok = absurd (spent d.spent refl s)
  where
    spent : (o : Option Counter) → d.spent ≡ o → T (is_some o) → ⊥
    spent None q t = t
    spent (Some n) q t = none_some (sym (sym (ap (λ x. (elim x as (λ z. Moving) [ Some n ↦ fails (fault.Spent n) m.world | None ↦ come_out c d.outs (with_world (λ w. record w { clerks = put c d.clerk w.clerks }) m) ]).fault) q) ∙ ok))
done F m g st c b run d (inr (γ, shown, h)) ok = by d.spent refl
  where
    by : (o : Option Counter) → d.spent ≡ o → HoldsIn F (clerk_does c d m).world
    by None q = (doing_in c b d γ g, h, done-stands m g st c b run d γ q shown)
    by (Some n) q = absurd (none_some (sym (sym (ap (λ x. (elim x as (λ z. Moving) [ Some n ↦ fails (fault.Spent n) m.world | None ↦ come_out c d.outs (with_world (λ w. record w { clerks = put c d.clerk w.clerks }) m) ]).fault) q) ∙ ok)))

-- it may begin in the system in which the world stands
may-begin-in : (w : World) (g : System) → Stands w g → (c l : ℕ) (cl : Call) → MayResume w c l cl → MayBegin g c l cl
may-begin-in w g st c l cl may = record {
  own = subst (EachLine (Agrees l c cl)) st.shown may.own;
  unanswered = subst (EachLine (Unanswered l)) st.shown may.unanswered;
  unused = subst (λ x. (d n k : ℕ) (dl : Call) → call_of d n x ≡ Some (k, dl) → (k == l) ≡ false) st.calls may.unused;
}

module _ (F : System → Type 0) (queues : QueuesKeep F) where
  pub waits-hold : (w : World) → HoldsIn F w → (c l : ℕ) (cl : Call) → MayWait w c l cl → HoldsIn F (wait c l cl w).world
  waits-hold w (g, h, st) c l cl may = by (at c w.clerks) refl may.runs
    where
      by : (o : Option Clerk) → at c w.clerks ≡ o → T (is_some o) → HoldsIn F (wait c l cl w).world
      by None q t = absurd t
      by (Some k) q t =
          let r = runs-in w g st c k q in
          (lined g (show.Waits l c cl), queues.waits g c r.0 h r.1 l cl (new-line g l (new-in w g st l may.new)), lined-stands w g st (show.Waits l c cl))

  pub resumes-hold : (w : World) → HoldsIn F w → (c l : ℕ) (cl : Call) → MayResume w c l cl → (resume c l cl w).fault ≡ None → HoldsIn F (resume c l cl w).world
  resumes-hold w (g, h, st) c l cl may f = by (at c w.clerks) refl f
    where
      begins : (k : Clerk) → at c w.clerks ≡ Some k → (o : Option Counter)
          → (elim o as (λ z. Moving) [ Some n ↦ fails (fault.Spent n) w | None ↦ clerk_does c (begin cl k) (moving (add_call c (k.calls + 1) l cl w)) ]).fault ≡ None
          → HoldsIn F (elim o as (λ z. Moving) [ Some n ↦ fails (fault.Spent n) w | None ↦ clerk_does c (begin cl k) (moving (add_call c (k.calls + 1) l cl w)) ]).world
      begins k q (Some n) f = absurd (none_some (sym f))
      begins k q None f =
          let r = runs-in w g st c k q in
          let shown = subst (λ ss. list_any (is_numbered l) ss ≡ true) st.shown may.shown in
          done F (moving (add_call c (k.calls + 1) l cl w)) (called c (k.calls + 1) l cl g) (added-stands w g st c (k.calls + 1) l cl) c r.0 r.1 (begin cl k)
          (queues.resumes g c r.0 k h r.1 r.2 l cl (may-begin-in w g st c l cl may) shown may.bounded) f

      by : (o : Option Clerk) → at c w.clerks ≡ o → (resume_on c l cl o w).fault ≡ None → HoldsIn F (resume_on c l cl o w).world
      by None q f = (g, h, st)
      by (Some k) q f = begins k q (begin cl k).spent f
