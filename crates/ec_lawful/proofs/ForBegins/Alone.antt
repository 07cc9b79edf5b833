-- What a new start makes of its first call alone: it waits, or it's answered without a session.
use Rattle.std.proofs.Common.{◌≡◌, refl, sym, ap, subst, ◌∙◌, ℕ, zero, suc, T, true, false, List, [], ◌∷◌, Option, Some, None}
use Rattle.std.specs.List.{list_any}
use Rattle.ec_plain.specs.BoundedCalls.{is_bounded}
use Rattle.ec_plain.specs.declared.call.Call.{Call}
use Rattle.ec_plain.specs.declared.call.Outcome.{Outcome}
use Rattle.ec_history.specs.Placing.{shows}
use Rattle.ec_history.specs.declared.entry.Answer.{Answer}
use Rattle.ec_history.specs.declared.entry.Answer.TheVariants as answer
use Rattle.ec_base.specs.Tables.{at, renewed}
use Rattle.ec_cache.specs.Cache.{all_used, used}
use Rattle.ec_cache.specs.declared.state.CacheState.{CacheState}
use Rattle.ec_cache.specs.declared.state.Held.{Held}
use Rattle.ec_log.specs.declared.state.Asked.{Asked}
use Rattle.ec_cache.specs.declared.resolve.verdict.Verdict.{Verdict}
use Rattle.ec_cache.specs.declared.resolve.verdict.Verdict.TheVariants.{Need, Lost, NeedIds, Done}
use Rattle.ec_protocol.specs.Clerk.{Answered, Doing, Tried, Waits, add_call, await, awaited, begin, doing, evict, new_clerk, settle_outcome, try, try_rounds, try_verdict, verdict, with_clerk}
use Rattle.ec_protocol.specs.World.{is_answer_to}
use Rattle.ec_protocol.specs.declared.clerk.Clerk.{Clerk}
use Rattle.ec_protocol.specs.declared.clerk.Out.TheVariants as out
use Rattle.ec_protocol.specs.declared.clerk.Waiting.{Waiting}
use Rattle.ec_coherence.specs.Answers.{Gives}
use Rattle.ec_lawful.proofs.OfClerkSteps.ForCalls.Sessionless.{ShowsNothing, sessionless}

-- nothing held is used
pub used-none : (xs : List ℕ) (k : CacheState) → k.held ≡ [] → all_used xs k ≡ k
used-none [] k e = refl
used-none (x ∷ xs) k e = ap (all_used xs) one ∙ used-none xs k e
  where
    one : used x k ≡ k
    one = ap (λ z. elim (at {X = Held} x z) as (λ y. CacheState) [ None ↦ k | Some h ↦ record k { held = renewed x h z } ]) e

module _ (c b : ℕ) (cl : Call) (bounded : T (is_bounded cl)) where
  abbrev first : Clerk
  first = new_clerk c b

  abbrev w : Waiting
  w = record { no = 1; call = cl; begun = 0 }

  abbrev d : Doing
  d = doing (add_call cl first)

  -- the step behind the answer
  abbrev gone : Answer → Doing
  gone a = record { clerk = record (add_call cl first) { waiting = [] }; outs = out.Answer 1 a None ∷ []; spent = None }

  abbrev Comes : Tried → Type 0
  Comes (Waits e) = e ≡ d
  Comes (Answered e) = (a : Answer) × (shows cl a ≡ false) × ((m : ℕ) → Gives m first (verdict cl first) a None []) × (with_clerk (λ k. record k { waiting = [] }) e ≡ gone a)

  tries : Comes (try w d)
  tries = by (verdict cl first) refl nothing
    where
      nothing : ShowsNothing cl (verdict cl first)
      nothing = sessionless first.cache [] refl refl cl bounded

      -- what comes out of an answer
      out-of : (a : Answer) (xs : List ℕ) → with_clerk (λ k. record k { waiting = [] }) (record d { clerk = record (d.clerk) { cache = all_used xs first.cache }; outs = out.Answer 1 a None ∷ [] }) ≡ gone a
      out-of a xs = ap (λ z. record { clerk = record (add_call cl first) { waiting = []; cache = z }; outs = out.Answer 1 a None ∷ []; spent = None }) (used-none xs first.cache refl)

      awaits : (o : Outcome) → shows cl (answer.Reply o.reply) ≡ false → ((m : ℕ) → Gives m first (verdict cl first) (answer.Reply o.reply) None []) → (x : Option Asked) → Comes (await w o x d)
      awaits o s g None = (answer.Reply o.reply, s, g, out-of (answer.Reply o.reply) o.touched)
      awaits o s g (Some x) = (answer.Reply o.reply, s, g, out-of (answer.Reply o.reply) o.touched)

      by : (v : Verdict) → verdict cl first ≡ v → ShowsNothing cl v → Comes (try_verdict w v d)
      by (Need x h) e s = refl
      by (NeedIds xs) e s = absurd s
      by (Lost ns xs) e s = (answer.Lost ns, s, (λ m. subst (λ v. Gives m first v (answer.Lost ns) None []) (sym e) (refl, refl, refl)), out-of (answer.Lost ns) xs)
      by (Done o) e s = subst (λ u. Comes (settle_outcome w o u d)) (sym s.1) (awaits o s.0 (λ m. subst (λ v. Gives m first v (answer.Reply o.reply) None []) (sym e) (refl, sym (ap (λ u. elim u as (λ y. Option ℕ) [ None ↦ None | Some z ↦ Some 1 ]) s.1), refl)) (awaited cl o))

  -- so the whole step
  pub alone : list_any (is_answer_to 1) (begin cl first).outs ≡ true → (a : Answer) × (shows cl a ≡ false) × ((m : ℕ) → Gives m first (verdict cl first) a None []) × (begin cl first ≡ gone a)
  alone answered = go (try w d) tries answered
    where
      two : false ≡ true → ⊥
      two e = cc

      go : (t : Tried) → Comes t
          → list_any (is_answer_to 1) (evict (elim (elim t as (λ y. Tried) [ Waits e ↦ Waits e | Answered e ↦ Answered (with_clerk (λ k. record k { waiting = [] }) e) ]) as (λ y. Doing) [ Waits e ↦ e | Answered e ↦ try_rounds (suc zero) e ])).outs ≡ true
          → (a : Answer) × (shows cl a ≡ false) × ((m : ℕ) → Gives m first (verdict cl first) a None [])
          × (evict (elim (elim t as (λ y. Tried) [ Waits e ↦ Waits e | Answered e ↦ Answered (with_clerk (λ k. record k { waiting = [] }) e) ]) as (λ y. Doing) [ Waits e ↦ e | Answered e ↦ try_rounds (suc zero) e ]) ≡ gone a)
      go (Answered e) h p = (h.0, h.1, h.2, ap evict h.3)
      go (Waits e) h p = absurd (two (ap (λ z. list_any (is_answer_to 1) (evict z).outs) (sym h) ∙ p))
