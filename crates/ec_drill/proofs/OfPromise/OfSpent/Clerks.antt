-- The end of a clerk's step: it asks for ids once, begins a window of batches and issues an operation for each waiting call at most, and spends no counter.
use Rattle.std.proofs.Common.{◌≡◌, refl, sym, ap, subst, arith, ◌≤◌, ◌+◌, ℕ, Bool, true, false, not, ◌&&◌, length, length-append, List, [], ◌∷◌, ◌++◌, Option, Some, None}
use Rattle.std.specs.Prelude.{is_none, nat_le}
use Rattle.std.specs.List.{list_any}
use Rattle.ec_base.specs.Limits.{last_counter}
use Rattle.ec_base.specs.Tables.{first as first_of, keys}
use Rattle.ec_base.specs.declared.counter.Counter.TheVariants as counter
use Rattle.ec_base.specs.declared.ids.Hold.{Hold}
use Rattle.ec_volume.specs.declared.update.Update.{Update}
use Rattle.ec_plain.specs.declared.call.Outcome.{Outcome}
use Rattle.ec_history.specs.declared.entry.Answer.{Answer}
use Rattle.ec_history.specs.declared.entry.Answer.TheVariants as answer
use Rattle.ec_order.specs.Order.{Issued}
use Rattle.ec_cache.specs.Cache as cache
use Rattle.ec_cache.specs.declared.state.Held.{Held}
use Rattle.ec_log.specs.Log as log
use Rattle.ec_log.specs.declared.state.Asked.{Asked}
use Rattle.ec_log.specs.declared.state.Asked.TheVariants.{All, Object, Op}
use Rattle.ec_log.specs.declared.state.LogState.{LogState}
use Rattle.ec_log.specs.declared.state.Pick.{Pick}
use Rattle.ec_log.specs.declared.state.Pick.TheVariants as pick_of
use Rattle.ec_cache.specs.declared.resolve.verdict.Verdict.{Verdict}
use Rattle.ec_cache.specs.declared.resolve.verdict.Verdict.TheVariants.{Need, Lost, NeedIds, Done}
use Rattle.ec_protocol.specs.Clerk.{Answered, Doing, Tried, Waits, answer_recalls, answer_with, ask_anew, ask_for, ask_pushes, ask_room, await, awaited, evict, evict_unpinned, give_back, has_session, is_owing, is_ready, is_settled, is_wanted, issue_if_room, keep_push, keep_recall, may_want, on_objects, send_backs, send_batch, send_picked, send_room, send_want, settle, settle_outcome, spend, suits, try, try_pushes, try_recalls, try_verdict, verdict, want, wanted, with_clerk, with_log, with_update}
use Rattle.ec_protocol.specs.declared.clerk.Recalled.{Recalled}
use Rattle.ec_protocol.specs.declared.clerk.Waiting.{Waiting}
use Rattle.ec_coherence.proofs.ForClerk.Settling.{Keeping, settle-keeps}
use Rattle.ec_coherence.proofs.ForClerk.Try.{OnTried}
use Rattle.ec_coherence.proofs.ForClerk.TriedList.{same-verdict}
use Rattle.ec_drill.specs.OfPromise.OfSpent.SpentDrills.{most_lines}
use Rattle.ec_drill.proofs.OfPromise.OfSpent.Few.{IsGoingCounts, counts, most_steps, unasked}
use Rattle.ec_drill.proofs.OfPromise.OfSpent.Windows.{begins, has-room, least-begun}
use Rattle.ec_base.proofs.Numbers.{above-limit, at-limit}

-- A pick.

-- a new batch has the next number, and the window has room for it
pick-next : (ops : Issued) (l : LogState) (b : ℕ) (ns : List ℕ) → log.pick_from ops l ≡ pick_of.Batch b ns → (b ≡ l.next_batch) × (log.in_window l l.batches ≡ true)
pick-next [] l b ns e = absurd (cc)
pick-next (op ∷ ops) l b ns e = go (first_of (log.has_one_of (keys (op ∷ ops))) l.batches) (log.in_window l l.batches) e
  where
    go : (o : Option (ℕ × List ℕ)) (z : Bool) → elim o as (λ y. Pick) [
      | Some c ↦ pick_of.Behind c.0
      | None ↦ elim z as (λ y. Pick) [ true ↦ pick_of.Batch l.next_batch (keys (Rattle.std.specs.Prelude.take 64 (op ∷ ops))) | false ↦ pick_of.Window (log.least l.batches) ]
    ] ≡ pick_of.Batch b ns → (b ≡ l.next_batch) × (z ≡ true)
    go (Some c) z e = absurd (cc)
    go None true e = (cc, refl)
    go None false e = absurd (cc)

module _ (calls steps : ℕ) (few_calls : calls ≤ most_lines) (few_steps : steps ≤ most_steps) where
  -- a step under way
  abbrev pub Goes : Doing → Type 0
  Goes d = IsGoingCounts calls steps (counts d.clerk) d.spent

  choose : (z : Bool) (d e : Doing) → Goes d → Goes e → Goes (elim z as (λ y. Doing) [ true ↦ d | false ↦ e ])
  choose true d e h i = h
  choose false d e h i = i

  -- Batches.

  module _ (ns : List ℕ) (d : Doing) (h : Goes d) where
    abbrev next : ℕ
    next = d.clerk.log.next_batch

    -- the next one begins
    begins-one : log.in_window d.clerk.log d.clerk.log.batches ≡ true → Goes (send_batch next (with_log (log.after_pick (pick_of.Batch next ns)) d))
    begins-one within = record {
      made = h.made;
      ops = h.ops;
      asks = h.asks;
      low = omega (arith, h.low, least-begun next ns d.clerk.log.batches h.window);
      window = begins next ns d.clerk.log.batches h.window (has-room d.clerk.log d.clerk.log.batches within h.window.near);
      rounds = h.rounds;
      spent = h.spent;
    }

    picks-next : log.in_window d.clerk.log d.clerk.log.batches ≡ true → Goes (send_picked (pick_of.Batch next ns) d)
    picks-next within = go (log.batches_are_spent d.clerk.log) refl
      where
        go : (z : Bool) → log.batches_are_spent d.clerk.log ≡ z → Goes (elim z as (λ y. Doing) [ true ↦ spend counter.Batch d | false ↦ send_batch next (with_log (log.after_pick (pick_of.Batch next ns)) d) ])
        go true e = absurd (omega (arith, above-limit last_counter next e, h.low, h.window.near, few_steps))
        go false e = begins-one within

  picks : (p : Pick) (d : Doing) → ((b : ℕ) (ns : List ℕ) → p ≡ pick_of.Batch b ns → (b ≡ d.clerk.log.next_batch) × (log.in_window d.clerk.log d.clerk.log.batches ≡ true)) → Goes d → Goes (send_picked p d)
  picks (pick_of.Batch b ns) d f h = let q = f b ns refl in subst (λ (n : ℕ). Goes (send_picked (pick_of.Batch n ns) d)) (sym q.0) (picks-next ns d h q.1)
  picks pick_of.Settled d f h = h
  picks (pick_of.Behind b) d f h = h
  picks (pick_of.Window b) d f h = h

  asks : (a : Asked) (d : Doing) → Goes d → Goes (ask_for a d)
  asks a d h = picks (log.pick a d.clerk.log) d (λ b ns e. pick-next (log.closure_of a d.clerk.log) d.clerk.log b ns e) h

  -- Recalls, pushes and evictions.

  recalls : (rs : List Recalled) (d : Doing) → Goes d → Goes (try_recalls rs d)
  recalls [] d h = h
  recalls (r ∷ rs) d h = recalls rs _ (choose (is_ready r d.clerk) (give_back r d) (keep_recall r (ask_for (Object r.obj) d)) h (asks (Object r.obj) d h))

  all-recalls : (d : Doing) → Goes d → Goes (answer_recalls d)
  all-recalls d h = recalls d.clerk.recalls _ h

  pushes : (ns : List ℕ) (d : Doing) → Goes d → Goes (try_pushes ns d)
  pushes [] d h = h
  pushes (n ∷ ns) d h = pushes ns _ (choose (is_settled (Op n) d.clerk) d (ask_for (Op n) (keep_push n d)) h (asks (Op n) (keep_push n d) h))

  all-pushes : (d : Doing) → Goes d → Goes (ask_pushes d)
  all-pushes d h = pushes d.clerk.pushes _ h

  backs : (es : List (ℕ × Held)) (d : Doing) → Goes d → Goes (send_backs es d)
  backs [] d h = h
  backs (e ∷ es) d h = backs es _ h

  evicts : (d : Doing) → Goes d → Goes (evict d)
  evicts d h = choose (nat_le (length d.clerk.cache.held) d.clerk.cache.capacity) d (evict_unpinned (on_objects d.clerk.log.undurable) d) h (backs (cache.evicted (on_objects d.clerk.log.undurable) d.clerk.cache) _ h)

  -- Wants and askings.

  wants-once : (x : ℕ) (m : Hold) (d : Doing) → Goes d → Goes (want x m d)
  wants-once x m d h = choose (may_want x m d.clerk && not (list_any (is_wanted (wanted x m d.clerk)) d.clerk.wanted)) (send_want x m d) d h h

  -- none is under way
  anew : (d : Doing) → d.clerk.asking ≡ None → Goes d → Goes (ask_anew d)
  anew d none h = go (nat_le last_counter d.clerk.asks) refl
    where
      one : unasked d.clerk.asking ≡ 1
      one = ap unasked none

      go : (z : Bool) → nat_le last_counter d.clerk.asks ≡ z → Goes (elim z as (λ y. Doing) [ true ↦ spend counter.Ask d | false ↦ send_room (d.clerk.asks + 1) (with_clerk (λ k. record k { asking = Some (k.asks + 1); asks = k.asks + 1 }) d) ])
      go true e = absurd (omega (arith, at-limit last_counter d.clerk.asks e, h.asks, few_steps))
      go false e = record { made = h.made; ops = h.ops; asks = omega (arith, h.asks, one); low = h.low; window = h.window; rounds = h.rounds; spent = h.spent }

  rooms : (d : Doing) → Goes d → Goes (ask_room d)
  rooms d h = go (has_session d.clerk) d.clerk.asking refl
    where
      go : (z : Bool) (o : Option ℕ) → d.clerk.asking ≡ o → Goes (elim (z && is_none o) as (λ y. Doing) [ true ↦ ask_anew d | false ↦ d ])
      go true None e = anew d e h
      go true (Some n) e = h
      go false o e = h

  -- Tries.

  module _ (before : List Waiting) (p : Waiting) (ws : List Waiting) (d : Doing) (h : Goes d) (q : d.clerk.waiting ≡ before ++ p ∷ ws) where
    abbrev Tries : Tried → Type 0
    Tries (Waits e) = Goes e
    Tries (Answered e) = Goes (with_clerk (λ k. record k { waiting = before ++ ws }) e)

    -- the call leaves the list
    one-less : length d.clerk.waiting ≡ length (before ++ ws) + 1
    one-less = omega (arith, ap length q, length-append before (p ∷ ws), length-append before ws)

    -- an answer without an operation
    replies : (a : Answer) (xs : List ℕ) → Tries (answer_with p a None xs d)
    replies a xs = record { made = h.made; ops = omega (arith, h.ops, one-less); asks = h.asks; low = h.low; window = h.window; rounds = h.rounds; spent = h.spent }

    -- an answer with its operation
    issues : (o : Outcome) (u : Update) → Tries (answer_with p (answer.Reply o.reply) (Some d.clerk.log.next) o.touched (with_clerk (with_update u) d))
    issues o u = record { made = h.made; ops = omega (arith, h.ops, one-less); asks = h.asks; low = h.low; window = h.window; rounds = h.rounds; spent = h.spent }

    on-await : (o : Outcome) (a : Option Asked) → Tries (await p o a d)
    on-await o None = replies (answer.Reply o.reply) o.touched
    on-await o (Some a) = go (is_owing p.begun (log.first a d.clerk.log))
      where
        go : (z : Bool) → Tries (elim z as (λ y. Tried) [ true ↦ Waits (ask_for a d) | false ↦ answer_with p (answer.Reply o.reply) None o.touched d ])
        go true = asks a d h
        go false = replies (answer.Reply o.reply) o.touched

    on-issue : (o : Outcome) (u : Update) → Tries (issue_if_room p o u d)
    on-issue o u = go (suits u d.clerk.cache) (log.is_full d.clerk.log) (log.ops_are_spent d.clerk.log) refl
      where
        go : (x y z : Bool) → log.ops_are_spent d.clerk.log ≡ z → Tries (elim x as (λ a. Tried) [
          | false ↦ Waits d
          | true ↦ elim y as (λ a. Tried) [
            | true ↦ Waits (ask_for All d)
            | false ↦ elim z as (λ a. Tried) [
              | true ↦ Waits (spend counter.Op d)
              | false ↦ answer_with p (answer.Reply o.reply) (Some d.clerk.log.next) o.touched (with_clerk (with_update u) d)
            ]
          ]
        ])
        go false y z e = h
        go true true z e = asks All d h
        go true false true e = absurd (omega (arith, above-limit last_counter d.clerk.log.next e, h.ops, h.made, few_calls))
        go true false false e = issues o u

    on-outcome : (o : Outcome) (u : Option Update) → Tries (settle_outcome p o u d)
    on-outcome o None = on-await o (awaited p.call o)
    on-outcome o (Some u) = on-issue o u

    on-verdict : (v : Verdict) → Tries (try_verdict p v d)
    on-verdict (Need x m) = wants-once x m d h
    on-verdict (NeedIds xs) = rooms d h
    on-verdict (Lost ns xs) = record { made = h.made; ops = omega (arith, h.ops, one-less); asks = h.asks; low = h.low; window = h.window; rounds = h.rounds; spent = h.spent }
    on-verdict (Done o) = on-outcome o o.update

    keeping : Keeping Goes before p ws (try p d)
    keeping = go (try p d) (on-verdict (verdict p.call d.clerk)) (same-verdict (before ++ p ∷ ws) p (verdict p.call d.clerk) d q)
      where
        go : (t : Tried) → Tries t → OnTried (λ f. f.clerk.waiting ≡ before ++ p ∷ ws) t → Keeping Goes before p ws t
        go (Waits e) x y = (x, y)
        go (Answered e) x y = x

  pub settles : (d : Doing) → Goes d → Goes (settle d)
  settles = settle-keeps Goes (λ before p ws d h q. keeping before p ws d h q) all-recalls all-pushes evicts
