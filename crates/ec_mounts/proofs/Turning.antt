-- What a pass knows behind a call and the turns after it.
use Rattle.std.proofs.Common.{◌≡◌, ◌⊎◌, ℕ, List, [], ◌∷◌, ◌++◌, Option, Some, None, Result, Ok, Err, refl, sym, ap, ◌∙◌, subst, ⊎_elim}
use Rattle.std.proofs.lemmas.List.{append-nil}
use mathlib.Core.List.{IsPrefix}
use Rattle.ec_log.specs.declared.state.Asked.{Asked}
use Rattle.ec_plain.specs.declared.call.Call.{Call}
use Rattle.ec_protocol.specs.declared.clerk.Clerk.{Clerk}
use Rattle.ec_protocol.specs.declared.clerk.Flushed.{Flushed}
use Rattle.ec_lock.specs.PassViews.{front, numbers, IsPassOf}
use Rattle.ec_lock.specs.Steps.{Member}
use Rattle.ec_lock.specs.declared.types.Pass.{Pass}
use Rattle.ec_lock.specs.declared.types.TracedLock.{TracedLock}
use Rattle.ec_outs.specs.Outs.{Reply}
use Rattle.ec_clerknode.specs.declared.fault.NodeFault.{NodeFault}
use Rattle.ec_clerknode.specs.declared.state.Node.{Node}
use Rattle.ec_clerknode.specs.declared.step.Step.{Step}
use Rattle.ec_clerknode.specs.Turns.{calls_by}
use Rattle.ec_clerknode.specs.PassTurns.{Turned, FlushTurned}
use Rattle.ec_mounts.specs.Mounts.{Rests, Makes}
use Rattle.ec_mounts.specs.Parts.{Answered, MadeOne, TookTurns}
use Rattle.ec_base.proofs.Lists.{prefix_self, prefix_trans}

-- a turn that flushes begins no call
pub none_begun : (c : Clerk) (pass : ℕ) (asked : Asked) (before after : List Step) (met : Result Flushed NodeFault) → FlushTurned c pass asked before after met → calls_by pass after ≡ calls_by pass before
none_begun c pass asked before after (Ok answer) w = w.0.0
none_begun c pass asked before after (Err f) w = ⊎_elim (λ (e : calls_by pass after ≡ calls_by pass before). e) (λ (e : calls_by pass after ≡ calls_by pass before ++ []). e ∙ append-nil (calls_by pass before)) w.0

module _ {L : Type 0} where
  pub rests_self : (pass : Pass (Node L) Step) → Rests pass pass
  rests_self pass = record { same = (refl, refl); later = prefix_self (front pass); others = λ n m no. refl; begun = refl }

  pub rests_more : (old mid new : Pass (Node L) Step) → Rests old mid → Rests mid new → Rests old new
  rests_more old mid new p q = record {
    same = (q.same.0 ∙ p.same.0, q.same.1 ∙ p.same.1);
    later = prefix_trans (front old) (front mid) (front new) p.later q.later;
    others = λ n m no. p.others n m no ∙ q.others n (subst (Member n) (sym p.same.1) m) (λ e. no (e ∙ p.same.0));
    begun = subst (λ k. calls_by k (front new) ≡ calls_by k (front mid)) p.same.0 q.begun ∙ p.begun;
  }

module _ {L : Type 0} (lock : TracedLock (Node L) Step) where
  -- turns in which no call is begun
  pub rests_turned : (old new : Pass (Node L) Step) → Turned lock old new → calls_by old.number (front new) ≡ calls_by old.number (front old) → Rests old new
  rests_turned old new t b = record { same = (t.stays.0, t.stays.1); later = t.goes.1; others = t.others; begun = b }

  pub took_none : (pass : Pass (Node L) Step) → IsPassOf lock pass → TookTurns lock pass pass
  took_none pass is = (is, rests_self pass)

  -- one more turn
  pub took_more : (old mid new : Pass (Node L) Step) → TookTurns lock old mid → Turned lock mid new → calls_by mid.number (front new) ≡ calls_by mid.number (front mid) → TookTurns lock old new
  took_more old mid new p t b = (t.is_pass, rests_more old mid new p.1 (rests_turned mid new t b))

  -- a call, and then turns
  pub makes : (call : Call) (old mid new : Pass (Node L) Step) (met : Result Reply NodeFault) → MadeOne lock call old mid met → TookTurns lock mid new → Makes call old new met
  makes call old mid new met p q =
      let t = p.0 in
      let rests = q.1 in
      record {
        same = (rests.same.0 ∙ t.stays.0, rests.same.1 ∙ t.stays.1);
        later = prefix_trans (front old) (front mid) (front new) t.goes.1 rests.later;
        others = λ n m no. t.others n m no ∙ rests.others n (subst (Member n) (sym t.stays.1) m) (λ e. no (e ∙ t.stays.0));
        behind = front mid;
        called = p.1;
        going_on = rests.later;
        begun = subst (λ k. calls_by k (front new) ≡ calls_by k (front mid)) t.stays.0 rests.begun;
      }
