-- A call of a clerk without a session begins: what the clerk answers needed nothing.
use Rattle.std.proofs.Common.{◌≡◌, arith, refl, sym, ap, subst, ◌∙◌, ◌+◌, ℕ, suc, zero, T, Bool, true, false, not, ◌&&◌, List, [], ◌∷◌, ◌++◌, length, Option, Some, None, append-nil, append_assoc}
use Rattle.std.specs.Prelude.{is_none, is_some, nat_le, ⊤}
use Rattle.std.specs.List.{filter, list_any}
use Rattle.ec_base.specs.Holds.{is_below}
use Rattle.ec_base.specs.Limits.{last_counter}
use Rattle.ec_base.specs.declared.counter.Counter.TheVariants as counter
use Rattle.ec_base.specs.declared.ids.Hold.{Hold}
use Rattle.ec_plain.specs.BoundedCalls.{is_bounded}
use Rattle.ec_plain.specs.declared.call.Call.{Call}
use Rattle.ec_plain.specs.declared.call.Outcome.{Outcome}
use Rattle.ec_volume.specs.declared.update.Update.{Update}
use Rattle.ec_history.specs.History.{Each}
use Rattle.ec_history.specs.declared.entry.Answer.{Answer}
use Rattle.ec_history.specs.declared.entry.Answer.TheVariants as answer
use Rattle.ec_cache.specs.Cache as cache
use Rattle.ec_history.proofs.OfLaws.ForPlacing.Numbers.{each-append}
use Rattle.ec_log.specs.Log as log
use Rattle.ec_log.specs.declared.state.Asked.{Asked}
use Rattle.ec_log.specs.declared.state.Asked.TheVariants.{All}
use Rattle.ec_cache.specs.OfReport.Report.{Owed, clear}
use Rattle.ec_cache.specs.declared.resolve.verdict.Verdict.{Verdict}
use Rattle.ec_cache.specs.declared.resolve.verdict.Verdict.TheVariants.{Need, Lost, NeedIds, Done}
use Rattle.ec_protocol.specs.Clerk.{Answered, Doing, Tried, Waits, add_call, answer_with, ask_anew, ask_for, ask_pushes, ask_room, answer_recalls, await, awaited, begin, doing, evict, evict_unpinned, has_session, is_owing, issue, is_wanted, on_objects, send_want, settle, settle_outcome, spend, suits, try, try_all, try_each, try_rounds, try_verdict, under_recall, verdict, want, wanted, with_clerk}
use Rattle.ec_protocol.specs.declared.clerk.Clerk.{Clerk}
use Rattle.ec_protocol.specs.declared.clerk.Out.{Out}
use Rattle.ec_protocol.specs.declared.clerk.Out.TheVariants as out
use Rattle.ec_protocol.specs.declared.clerk.Waiting.{Waiting}
use Rattle.ec_coherence.specs.Answers.{Gives}
use Rattle.ec_coherence.specs.Sessions.{HasNone}
use Rattle.ec_coherence.proofs.ForServer.Tables.{same_some}
use Rattle.ec_lawful.specs.OfClerkSteps.Answering.{Suits}
use Rattle.ec_lawful.proofs.OfClerkSteps.OutsideAnswers.{no-update, still-cached}
use Rattle.ec_lease_machine.proofs.OfLeaseLaws.Outside.{outside-bare}
use Rattle.ec_history.specs.OfLaws.OfPrinted.Timely.{IsBare}
use Rattle.ec_base.proofs.Options.{none_some}

-- What a clerk without a session has none of, whatever it owes, has used and waits for.

used-none : (k : Clerk) → HasNone k → (xs : List ℕ) → HasNone (record k { cache = cache.all_used xs k.cache })
used-none k none xs = record {
  epoch = none.epoch;
  cache = still-cached k none xs ∙ none.cache ∙ ap (λ z. cache.empty z.capacity) (sym (still-cached k none xs));
  undurable = none.undurable;
  batches = none.batches;
  next_batch = none.next_batch;
  first = none.first;
  recalls = none.recalls;
  ids = none.ids;
  got = none.got;
  asking = none.asking;
}

cleared-none : (k : Clerk) → HasNone k → (q : Owed) → HasNone (record k { owed = q })
cleared-none k none q = record {
  epoch = none.epoch;
  cache = none.cache;
  undurable = none.undurable;
  batches = none.batches;
  next_batch = none.next_batch;
  first = none.first;
  recalls = none.recalls;
  ids = none.ids;
  got = none.got;
  asking = none.asking;
}

waiting-none : (k : Clerk) → HasNone k → (n : ℕ) (ws : List Waiting) → HasNone (record k { calls = n; waiting = ws })
waiting-none k none n ws = record {
  epoch = none.epoch;
  cache = none.cache;
  undurable = none.undurable;
  batches = none.batches;
  next_batch = none.next_batch;
  first = none.first;
  recalls = none.recalls;
  ids = none.ids;
  got = none.got;
  asking = none.asking;
}

-- It wants nothing, and asks for no room.

wants-none : (x : ℕ) (h : Hold) (d : Doing) → d.clerk.session ≡ None → want x h d ≡ d
wants-none x h d q =
    ap (λ o. elim ((is_some o && not (under_recall x d.clerk) && is_below (cache.mode x d.clerk.cache) h) && not (list_any (is_wanted (wanted x h d.clerk)) d.clerk.wanted)) as (λ z. Doing) [
      | true ↦ send_want x h d
      | false ↦ d
    ]) q

room-none : (d : Doing) → d.clerk.session ≡ None → ask_room d ≡ d
room-none d q = ap (λ o. elim (is_some o && is_none d.clerk.asking) as (λ z. Doing) [ true ↦ ask_anew d | false ↦ d ]) q

-- What came out before is there.
module _ (P : Waiting → Type 0) (bounded : (w : Waiting) → P w → T (is_bounded w.call)) (before : List Out) where
  -- an answer of one of these calls, which needed nothing
  abbrev pub IsBareAnswer : Out → Type 0
  IsBareAnswer (out.Answer n a op) = (w : Waiting) × P w × (w.no ≡ n) × IsBare w.call a op
  IsBareAnswer _ = ⊤

  -- a step under way, so far
  record IsOutside (d : Doing) : Type 0 where
    none : HasNone d.clerk
    outside : d.clerk.session ≡ None
    waiting : Each P d.clerk.waiting
    behind : List Out
    outs : d.outs ≡ before ++ behind
    bare : Each IsBareAnswer behind

  abbrev Goes : Tried → Type 0
  Goes (Waits e) = IsOutside e
  Goes (Answered e) = IsOutside e

  needs-none : (w : Waiting) (d : Doing) → P w → IsOutside d → (a : Answer) (op : Option ℕ) (rest : Owed) → Gives 0 d.clerk (verdict w.call d.clerk) a op rest → IsBare w.call a op
  needs-none w d p s a op rest g = outside-bare d.clerk s.none w.call (bounded w p) 0 a op rest g

  -- a call is tried
  answers : (w : Waiting) (a : Answer) (op : Option ℕ) (xs : List ℕ) (d : Doing) → P w → IsBare w.call a op → IsOutside d → Goes (answer_with w a op xs d)
  answers w a op xs d p b s = record {
    none = used-none d.clerk s.none xs;
    outside = s.outside;
    waiting = s.waiting;
    behind = s.behind ++ out.Answer w.no a op ∷ [];
    outs = ap (λ os. os ++ out.Answer w.no a op ∷ []) s.outs ∙ append_assoc before s.behind (out.Answer w.no a op ∷ []);
    bare = each-append IsBareAnswer s.behind (out.Answer w.no a op ∷ []) s.bare ((w, p, refl, b), tt);
  }

  cleared : (q : Owed) (d : Doing) → IsOutside d → IsOutside (with_clerk (λ k. record k { owed = q }) d)
  cleared q d s = record { none = cleared-none d.clerk s.none q; outside = s.outside; waiting = s.waiting; behind = s.behind; outs = s.outs; bare = s.bare }

  by-update : (w : Waiting) (d : Doing) → P w → IsOutside d → (o : Outcome) → verdict w.call d.clerk ≡ Done o → (u : Option Update) → o.update ≡ u → Goes (settle_outcome w o u d)
  by-update w d p s o e None q = by-awaited (awaited w.call o)
    where
      needed : IsBare w.call (answer.Reply o.reply) None
      needed = needs-none w d p s (answer.Reply o.reply) None d.clerk.owed
          (subst (λ v. Gives 0 d.clerk v (answer.Reply o.reply) None d.clerk.owed) (sym e) (refl, sym (ap (λ u. elim u as (λ z. Option ℕ) [ None ↦ None | Some x ↦ Some d.clerk.log.next ]) q), refl))

      now : Goes (answer_with w (answer.Reply o.reply) None o.touched d)
      now = answers w (answer.Reply o.reply) None o.touched d p needed s

      -- nothing is undurable
      settled : (a : Asked) → await w o (Some a) d ≡ answer_with w (answer.Reply o.reply) None o.touched d
      settled a =
          ap (λ ops. elim (is_owing w.begun (log.first_number (filter (log.is_asked a) ops))) as (λ z. Tried) [
            | true ↦ Waits (ask_for a d)
            | false ↦ answer_with w (answer.Reply o.reply) None o.touched d
          ]) (s.none).undurable

      by-awaited : (a : Option Asked) → Goes (await w o a d)
      by-awaited None = now
      by-awaited (Some a) = subst Goes (sym (settled a)) now
  by-update w d p s o e (Some u) q = by-suits (suits u d.clerk.cache) refl
    where
      by-suits : (z : Bool) → suits u d.clerk.cache ≡ z
          → Goes (elim z as (λ y. Tried) [ false ↦ Waits d | true ↦ elim (log.is_full d.clerk.log) as (λ y. Tried) [ true ↦ Waits (ask_for All d) | false ↦ issue w o u d ] ])
      by-suits false f = s
      by-suits true f = absurd (none_some (sym (no-update d.clerk s.none w.call o e so) ∙ q))
        where
          so : Suits (Done o) d.clerk
          so v r = subst (λ x. T (suits x d.clerk.cache)) (same_some (sym q ∙ r)) (subst T (sym f) tt)

  by-verdict : (w : Waiting) (d : Doing) → P w → IsOutside d → (v : Verdict) → verdict w.call d.clerk ≡ v → Goes (try_verdict w v d)
  by-verdict w d p s (Need x h) e = subst IsOutside (sym (wants-none x h d s.outside)) s
  by-verdict w d p s (NeedIds xs) e = subst IsOutside (sym (room-none d s.outside)) s
  by-verdict w d p s (Lost ns xs) e = answers w (answer.Lost ns) None xs (with_clerk (λ k. record k { owed = clear xs k.owed }) d) p
      (needs-none w d p s (answer.Lost ns) None (clear xs d.clerk.owed) (subst (λ v. Gives 0 d.clerk v (answer.Lost ns) None (clear xs d.clerk.owed)) (sym e) (refl, refl, refl))) (cleared (clear xs d.clerk.owed) d s)
  by-verdict w d p s (Done o) e = by-update w d p s o e o.update refl

  -- all are
  each-goes : (tried rest : List Waiting) (d : Doing) → Each P tried → Each P rest → IsOutside d → Goes (try_each tried rest d)
  each-goes tried [] d b r s = s
  each-goes tried (w ∷ ws) d b r s = by (try w d) (by-verdict w d r.0 s (verdict w.call d.clerk) refl) (λ e t. each-goes (tried ++ w ∷ []) ws e (each-append P tried (w ∷ []) b (r.0, tt)) r.1 t)
    where
      by : (t : Tried) → Goes t → ((e : Doing) → IsOutside e → Goes (try_each (tried ++ w ∷ []) ws e))
          → Goes (elim t as (λ z. Tried) [ Waits e ↦ try_each (tried ++ w ∷ []) ws e | Answered e ↦ Answered (with_clerk (λ k. record k { waiting = tried ++ ws }) e) ])
      by (Waits e) g more = more e g
      by (Answered e) g more = record {
        none = waiting-none e.clerk g.none e.clerk.calls (tried ++ ws);
        outside = g.outside;
        waiting = each-append P tried ws b r.1;
        behind = g.behind;
        outs = g.outs;
        bare = g.bare;
      }

  rounds : (n : ℕ) (d : Doing) → IsOutside d → IsOutside (try_rounds n d)
  rounds zero d s = s
  rounds (suc n) d s = by (try_each [] d.clerk.waiting d) (each-goes [] d.clerk.waiting d tt s.waiting s) (λ e t. rounds n e t)
    where
      by : (t : Tried) → Goes t → ((e : Doing) → IsOutside e → IsOutside (try_rounds n e)) → IsOutside (elim t as (λ z. Doing) [ Waits e ↦ e | Answered e ↦ try_rounds n e ])
      by (Waits e) g more = g
      by (Answered e) g more = more e g

  evicts : (d : Doing) → IsOutside d → IsOutside (evict d)
  evicts d s = subst IsOutside (sym (none-held ∙ within d.clerk.cache.capacity)) s
    where
      none-held : evict d ≡ elim (nat_le 0 d.clerk.cache.capacity) as (λ z. Doing) [ true ↦ d | false ↦ evict_unpinned (on_objects d.clerk.log.undurable) d ]
      none-held = ap (λ x. elim (nat_le (length x.held) d.clerk.cache.capacity) as (λ z. Doing) [ true ↦ d | false ↦ evict_unpinned (on_objects d.clerk.log.undurable) d ]) (s.none).cache

      least : (n : ℕ) → nat_le 0 n ≡ true
      least n = grind arith

      within : (n : ℕ) → elim (nat_le 0 n) as (λ z. Doing) [ true ↦ d | false ↦ evict_unpinned (on_objects d.clerk.log.undurable) d ] ≡ d
      within n = ap (λ y. elim y as (λ z. Doing) [ true ↦ d | false ↦ evict_unpinned (on_objects d.clerk.log.undurable) d ]) (least n)

  settles : (d : Doing) → IsOutside d → IsOutside (settle d)
  settles d s = subst (λ e. IsOutside (evict (try_all e))) (sym prepares) (evicts (try_all d) (rounds (suc (length d.clerk.waiting)) d s))
    where
      prepares : elim (has_session d.clerk) as (λ z. Doing) [ true ↦ ask_pushes (answer_recalls d) | false ↦ d ] ≡ d
      prepares = ap (λ o. elim (is_some o) as (λ z. Doing) [ true ↦ ask_pushes (answer_recalls d) | false ↦ d ]) s.outside

  -- So the end of a step adds what needed nothing.
  pub settles-bare : (d : Doing) → HasNone d.clerk → d.clerk.session ≡ None → Each P d.clerk.waiting → d.outs ≡ before → (more : List Out) × ((settle d).outs ≡ before ++ more) × Each IsBareAnswer more
  settles-bare d none out ws q =
      let s = settles d (record { none = none; outside = out; waiting = ws; behind = []; outs = q ∙ sym (append-nil before); bare = tt }) in
      (s.behind, s.outs, s.bare)

module _ (P : Waiting → Type 0) (bounded : (w : Waiting) → P w → T (is_bounded w.call)) where
  -- and what a call's step answers needed nothing
  pub begins-bare : (cl : Call) (k : Clerk) → HasNone k → k.session ≡ None → Each P (add_call cl k).waiting → Each (IsBareAnswer P bounded []) (begin cl k).outs
  begins-bare cl k none out ws = by (nat_le last_counter k.calls)
    where
      by : (z : Bool) → Each (IsBareAnswer P bounded []) (elim z as (λ y. Doing) [ true ↦ spend counter.CallNo (doing k) | false ↦ settle (doing (add_call cl k)) ]).outs
      by true = tt
      by false =
          let s = settles-bare P bounded [] (doing (add_call cl k)) (waiting-none k none (k.calls + 1) (add_call cl k).waiting) out ws refl in
          subst (Each (IsBareAnswer P bounded [])) (sym s.1) s.2
