-- A call on held objects is answered at once, though others wait.
use Rattle.std.proofs.Common.{◌≡◌, refl, sym, ap, subst, ◌∙◌, ◌+◌, ◌-◌, ℕ, suc, T, Bool, true, false, not, List, [], ◌∷◌, ◌++◌, Option, Some, None}
use Rattle.std.specs.Prelude.{◌&&◌, is_none, length, nat_le, nat_lt}
use Rattle.std.specs.List.{filter}
use Rattle.std.proofs.lemmas.Bool.{and_parts}
use Rattle.ec_base.specs.Limits.{last_counter}
use Rattle.ec_base.specs.declared.counter.Counter.TheVariants as counter
use Rattle.ec_volume.specs.declared.update.Update.{Update}
use Rattle.ec_plain.specs.declared.call.Call.{Call}
use Rattle.ec_plain.specs.declared.call.Outcome.{Outcome}
use Rattle.ec_history.specs.History.{Each}
use Rattle.ec_history.specs.declared.entry.Answer.TheVariants as answer
use Rattle.ec_log.specs.Log.{first, first_number, is_asked, is_full, max_undurable, ops_are_spent}
use Rattle.ec_log.specs.declared.state.Asked.{Asked}
use Rattle.ec_log.specs.declared.state.Asked.TheVariants.{All}
use Rattle.ec_cache.specs.OfResolve.Resolve.{evaluate}
use Rattle.ec_cache.specs.declared.resolve.verdict.Verdict.TheVariants.{Done}
use Rattle.ec_protocol.specs.Clerk.{Doing, Tried, Waits, Answered, add_call, answer_with, ask_for, await, awaited, begin, doing, evict, first_id, is_owing, issue_if_room, settle, settle_outcome, spend, suits, try, try_all, try_each, try_rounds, try_verdict, verdict, with_clerk, with_update}
use Rattle.ec_protocol.specs.declared.clerk.Clerk.{Clerk}
use Rattle.ec_protocol.specs.declared.clerk.Out.{Out}
use Rattle.ec_protocol.specs.declared.clerk.Out.TheVariants as out
use Rattle.ec_protocol.specs.declared.clerk.Waiting.{Waiting}
use Rattle.ec_lawful.specs.OfClerkSteps.Waits.{does_wait}
use Rattle.ec_lawful.specs.OfClerkSteps.CallLaws.{IsStill, IsStillIf, is_answer, prepared}
use Rattle.ec_lawful.proofs.OfClerkSteps.ForCalls.Still.{begins-still, still-then, still-waits, tries-answer}
use Rattle.ec_lawful.specs.OfClerkLaws.Prompt.{HeldCallsArePrompt, IsAmong, IsResting, is_durable, may_end, op_of}
use Rattle.ec_lawful.proofs.OfClerkLaws.Grows.{Grows, among, grows}
use Rattle.ec_lawful.proofs.OfClerkLaws.Walk.{each-round}
use Rattle.ec_base.proofs.Bools.{is-true}

not_true : (b : Bool) → not b ≡ true → b ≡ false
not_true true h = absurd (cc h)
not_true false h = refl

module _ (k : Clerk) (c : Call) (o : Outcome) (resting : IsResting k) (done : verdict c k ≡ Done o) (ends : may_end c o o.update k ≡ true) where
  abbrev own : Waiting
  own = record { no = k.calls + 1; call = c; begun = k.log.next - 1 }

  abbrev begun : Doing
  begun = doing (add_call c k)

  abbrev answered : Option ℕ → Out
  answered op = out.Answer (k.calls + 1) (answer.Reply o.reply) op

  -- it was answered with this operation, behind what came out before
  abbrev IsTold : Option ℕ → Tried → Type 0
  IsTold op (Waits e) = ⊥
  IsTold op (Answered e) = (before : List Out) × (e.outs ≡ before ++ answered op ∷ [])

  awaits : (d : Doing) → IsStill begun d → (a : Option Asked) → is_durable a k ≡ true → IsTold None (await own o a d)
  awaits d s None h = (d.outs, refl)
  awaits d s (Some a) h = go (first a d.clerk.log) (ap (λ us. is_none (first_number (filter (is_asked a) us))) s.undurable ∙ h)
    where
      go : (f : Option ℕ) → is_none f ≡ true → IsTold None (elim (is_owing own.begun f) as (λ y. Tried) [ true ↦ Waits (ask_for a d) | false ↦ answer_with own (answer.Reply o.reply) None o.touched d ])
      go None i = (d.outs, refl)
      go (Some n) i = absurd (cc i)

  issues : (d : Doing) → IsStill begun d → (u : Update) → may_end c o (Some u) k ≡ true → IsTold (Some k.log.next) (issue_if_room own o u d)
  issues d s u h =
      let p = and_parts (suits u k.cache && not (is_full k.log)) (not (ops_are_spent k.log)) h in
      let q = and_parts (suits u k.cache) (not (is_full k.log)) p.0 in
      go (suits u d.clerk.cache) (is_full d.clerk.log) (ops_are_spent d.clerk.log)
      (ap (suits u) s.cache ∙ q.0)
      (ap (λ us. nat_le max_undurable (length us)) s.undurable ∙ not_true (is_full k.log) q.1)
      (ap (λ n. nat_lt last_counter n) (s.quiet).next ∙ not_true (ops_are_spent k.log) p.1)
    where
      go : (x y z : Bool) → x ≡ true → y ≡ false → z ≡ false → IsTold (Some k.log.next) (elim x as (λ q. Tried) [
        | false ↦ Waits d
        | true ↦ elim y as (λ q. Tried) [
          | true ↦ Waits (ask_for All d)
          | false ↦ elim z as (λ q. Tried) [
            | true ↦ Waits (spend counter.Op d)
            | false ↦ answer_with own (answer.Reply o.reply) (Some d.clerk.log.next) o.touched (with_clerk (with_update u) d)
          ]
        ]
      ])
      go false y z a b e = absurd (cc a)
      go true true z a b e = absurd (cc b)
      go true false true a b e = absurd (cc e)
      go true false false a b e = (d.outs, ap (λ n. d.outs ++ answered (Some n) ∷ []) (s.quiet).next)

  settles : (d : Doing) → IsStill begun d → (x : Option Update) → may_end c o x k ≡ true → IsTold (op_of x k) (settle_outcome own o x d)
  settles d s None h = awaits d s (awaited c o) h
  settles d s (Some u) h = issues d s u h

  same-verdict : (d : Doing) → IsStill begun d → verdict c d.clerk ≡ Done o
  same-verdict d s =
      ap (λ z. evaluate z d.clerk.owed c (first_id d.clerk.ids)) s.cache
      ∙ ap (λ z. evaluate k.cache z c (first_id d.clerk.ids)) s.owed
      ∙ ap (λ z. evaluate k.cache k.owed c (first_id z)) s.ids
      ∙ done

  tried : (d : Doing) → IsStill begun d → IsTold (op_of o.update k) (try own d)
  tried d s = subst (λ v. IsTold (op_of o.update k) (try_verdict own v d)) (sym (same-verdict d s)) (settles d s o.update ends)

  -- the others are tried before it, and wait
  each : (before ws : List Waiting) (d : Doing) → IsStill begun d → Each (λ w. T (does_wait w k)) ws → IsTold (op_of o.update k) (try_each before (ws ++ own ∷ []) d)
  each before [] d s h = go (try own d) (tried d s)
    where
      go : (t : Tried) → IsTold (op_of o.update k) t → IsTold (op_of o.update k) (elim t as (λ q. Tried) [
        | Waits e ↦ try_each (before ++ own ∷ []) [] e
        | Answered e ↦ Answered (with_clerk (λ m. record m { waiting = before ++ [] }) e)
      ])
      go (Waits e) i = absurd i
      go (Answered e) i = i
  each before (w ∷ ws) d s h = go (try w d) (tries-answer w d) (λ e z. each (before ++ w ∷ []) ws e z h.1)
    where
      waits : does_wait w d.clerk ≡ true
      waits = still-waits begun d s w ∙ is-true (does_wait w k) h.0

      go : (t : Tried) → (is_answer t ≡ not (does_wait w d.clerk)) × IsStillIf d t → ((e : Doing) → IsStill begun e → IsTold (op_of o.update k) (try_each (before ++ w ∷ []) (ws ++ own ∷ []) e)) → IsTold (op_of o.update k) (elim t as (λ q. Tried) [
        | Waits e ↦ try_each (before ++ w ∷ []) (ws ++ own ∷ []) e
        | Answered e ↦ Answered (with_clerk (λ m. record m { waiting = before ++ (ws ++ own ∷ []) }) e)
      ])
      go (Waits e) i r = r e (still-then begun d e s (i.1).0)
      go (Answered e) i r = absurd (no-both (i.0 ∙ ap not waits))
        where
          no-both : true ≡ false → ⊥
          no-both e = cc

  rounds : (n : ℕ) (d : Doing) → IsStill begun d → IsAmong (answered (op_of o.update k)) (try_rounds (suc n) d).outs
  rounds n d s = go (try_each [] d.clerk.waiting d) (subst (λ ws. IsTold (op_of o.update k) (try_each [] ws d)) (sym (s.quiet).waiting) (each [] k.waiting d s resting.calls))
    where
      go : (t : Tried) → IsTold (op_of o.update k) t → IsAmong (answered (op_of o.update k)) (elim t as (λ q. Doing) [ Waits e ↦ e | Answered e ↦ try_rounds n e ]).outs
      go (Waits e) i = absurd i
      go (Answered e) i = among (answered (op_of o.update k)) e (try_rounds n e) (each-round Grows grows n e) (i.0, [], i.1)

  settled : IsAmong (answered (op_of o.update k)) (settle begun).outs
  settled =
      let p = prepared begun in
      let s = (begins-still begun resting.recalls).0 in
      among (answered (op_of o.update k)) (try_all p) (evict (try_all p)) (grows.evicts (try_all p)) (rounds (length p.clerk.waiting) p s)

  pub prompt : IsAmong (answered (op_of o.update k)) (begin c k).outs
  prompt = subst (λ b. IsAmong (answered (op_of o.update k)) (elim b as (λ y. Doing) [ true ↦ spend counter.CallNo (doing k) | false ↦ settle begun ]).outs) (sym resting.number) settled

pub prompts : HeldCallsArePrompt
prompts k c o r d e = prompt k c o r d e
