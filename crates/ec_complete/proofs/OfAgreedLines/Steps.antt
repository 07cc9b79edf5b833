-- A clerk's step counts no more than what it sends and issues.
use Rattle.std.proofs.Common.{◌≡◌, refl, sym, ap, subst, ◌∙◌, arith, ◌≤◌, ◌<◌, ◌+◌, ◌*◌, ℕ, suc, zero, Bool, true, false, not, ◌==◌, ◌&&◌, cond, length, length-append, List, [], ◌∷◌, ◌++◌, Option, Some, None}
use Rattle.std.specs.Prelude.{drop, filter, is_none, nat_le, nat_lt}
use Rattle.std.specs.List.{list_any}
use Rattle.ec_base.specs.Limits.{last_counter}
use Rattle.ec_base.specs.Tables.{at, first as first_of, keys}
use Rattle.ec_base.specs.declared.counter.Counter.TheVariants as counter
use Rattle.ec_base.specs.declared.ids.Age.{Age}
use Rattle.ec_base.specs.declared.ids.Hold.{Hold}
use Rattle.ec_base.specs.declared.ids.Hold.TheVariants.{Free}
use Rattle.ec_volume.specs.Update.{is_make}
use Rattle.ec_volume.specs.declared.update.Update.{Update}
use Rattle.ec_plain.specs.declared.call.Call.{Call}
use Rattle.ec_plain.specs.declared.call.Outcome.{Outcome}
use Rattle.ec_history.specs.declared.entry.Answer.{Answer}
use Rattle.ec_history.specs.declared.entry.Answer.TheVariants as answer
use Rattle.ec_order.specs.Order.{Issued}
use Rattle.ec_cache.specs.OfReport.Report.{clear}
use Rattle.ec_sessions.specs.Limits.{ids_per_grant, last_grants, last_round}
use Rattle.ec_sessions.specs.Slots.{run}
use Rattle.ec_sessions.specs.declared.window.Window.{Window}
use Rattle.ec_wire.specs.declared.msg.Msg.{Msg}
use Rattle.ec_wire.specs.declared.msg.Msg.TheVariants as msg
use Rattle.ec_cache.specs.Cache as cache
use Rattle.ec_cache.specs.declared.state.Held.{Held}
use Rattle.ec_log.specs.Log as log
use Rattle.ec_log.specs.declared.state.Asked.{Asked}
use Rattle.ec_log.specs.declared.state.Asked.TheVariants.{All, Object, Op}
use Rattle.ec_log.specs.declared.state.LogState.{LogState}
use Rattle.ec_log.specs.declared.state.Pick.{Pick}
use Rattle.ec_log.specs.declared.state.Pick.TheVariants as pick_of
use Rattle.ec_cache.specs.declared.resolve.verdict.Verdict.{Verdict}
use Rattle.ec_cache.specs.declared.resolve.verdict.Verdict.TheVariants.{Need, Lost, NeedIds, Done}
use Rattle.ec_protocol.specs.Clerk.{Answered, Doing, Tried, Waits, add_call, add_ids, answer_recalls, answer_with, ask_anew, ask_for, ask_pushes, ask_room, await, awaited, begin, claim, doing, emit, enter_epoch, epoch, evict, evict_unpinned, give_back, has_session, hello, idless, in_session, is_need, is_owing, is_ready, is_session, is_settled, is_wanted, issue_if_room, keep_call, keep_push, keep_recall, left_of, less_id, lose, lower_held, mark_recall, may_want, needs, on_objects, or_hello, push, refuse_make, refuse_makes, resend_batches, resend_needs, resend_room, same_age, send, send_backs, send_batch, send_outstanding, send_picked, send_room, send_want, session, settle, settle_outcome, spend, suits, take, take_ended, take_ids, take_no_room, take_opened, take_recall, take_restarted, taken, try, try_pushes, try_recalls, try_verdict, verdict, want, wanted, with_cache, with_clerk, with_log, with_update}
use Rattle.ec_protocol.specs.declared.clerk.Clerk.{Clerk}
use Rattle.ec_protocol.specs.declared.clerk.Out.{Out}
use Rattle.ec_protocol.specs.declared.clerk.Out.TheVariants as out
use Rattle.ec_protocol.specs.declared.clerk.Recalled.{Recalled}
use Rattle.ec_protocol.specs.declared.clerk.Waiting.{Waiting}
use Rattle.ec_coherence.proofs.ForClerk.Settling.{Keeping, settle-keeps}
use Rattle.ec_coherence.proofs.ForClerk.Try.{OnTried}
use Rattle.ec_coherence.proofs.ForClerk.TriedList.{same-verdict}
use Rattle.ec_complete.specs.OfAgreedLines.Counting.{IsCounted, sent_in}

-- One more thing comes out.

pub sent-both : (os ps : List Out) → sent_in (os ++ ps) ≡ sent_in os + sent_in ps
sent-both [] ps = omega arith
sent-both (out.Send m ∷ os) ps = omega (arith, sent-both os ps)
sent-both (out.Told ns ∷ os) ps = sent-both os ps
sent-both (out.Answer n a op ∷ os) ps = sent-both os ps
sent-both (out.OldBoot a ∷ os) ps = sent-both os ps

module _ (calls sent : ℕ) where
  -- a step under way
  abbrev pub Counts : Doing → Type 0
  Counts d = IsCounted calls (sent + sent_in d.outs) d.clerk

  -- a message goes out
  sends : (m : Msg) (d : Doing) → Counts d → Counts (send m d)
  sends m d h = record { made = h.made; ops = h.ops; undurable = h.undurable; ids = h.ids; batch = h.batch; sends = omega (arith, h.sends, sent-both d.outs (out.Send m ∷ [])) }

  -- something else comes out
  emits : (o : Out) (d : Doing) → sent_in (o ∷ []) ≡ 0 → Counts d → Counts (emit o d)
  emits o d e h = record { made = h.made; ops = h.ops; undurable = h.undurable; ids = h.ids; batch = h.batch; sends = omega (arith, h.sends, sent-both d.outs (o ∷ []), e) }

  -- what isn't counted changes
  abbrev Alike : Clerk → Clerk → Type 0
  Alike k now = (now.calls ≡ k.calls) × (now.log ≡ k.log) × (now.waiting ≡ k.waiting) × (now.got ≡ k.got) × (now.ids ≡ k.ids) × (now.asks ≡ k.asks)

  alike : (d : Doing) (now : Clerk) → Alike d.clerk now → Counts d → Counts (record d { clerk = now })
  alike d now q h = record {
    made = omega (arith, h.made, q.0);
    ops = omega (arith, h.ops, q.0, ap (λ z. z.next) q.1, ap length q.2);
    undurable = subst (λ z. length z.undurable < z.next) (sym q.1) h.undurable;
    ids = omega (arith, h.ids, q.3, ap length q.4, ap (λ z. z.next) q.1);
    batch = subst (λ z. 1 ≤ z.next_batch) (sym q.1) h.batch;
    sends = omega (arith, h.sends, q.5, ap (λ z. z.next_batch) q.1);
  }

  -- Batches.

  -- the next one is of the next number
  picks : (p : Pick) (d : Doing) → ((b : ℕ) (ns : List ℕ) → p ≡ pick_of.Batch b ns → b ≡ d.clerk.log.next_batch) → Counts d → Counts (send_picked p d)
  picks (pick_of.Batch b ns) d f h = go (log.batches_are_spent d.clerk.log)
    where
      next : b ≡ d.clerk.log.next_batch
      next = f b ns refl

      go : (z : Bool) → Counts (elim z as (λ y. Doing) [ true ↦ spend counter.Batch d | false ↦ send_batch b (with_log (log.after_pick (pick_of.Batch b ns)) d) ])
      go true = record { made = h.made; ops = h.ops; undurable = h.undurable; ids = h.ids; batch = h.batch; sends = h.sends }
      go false = record {
        made = h.made;
        ops = h.ops;
        undurable = h.undurable;
        ids = h.ids;
        batch = omega arith;
        sends = omega (arith, h.sends, next, sent-both d.outs (out.Send (msg.Flush (session d) (epoch d) b (log.batch b (log.after_pick (pick_of.Batch b ns) d.clerk.log))) ∷ []));
      }
  picks pick_of.Settled d f h = h
  picks (pick_of.Behind b) d f h = h
  picks (pick_of.Window b) d f h = h

  pick-next : (ops : Issued) (l : LogState) (b : ℕ) (ns : List ℕ) → log.pick_from ops l ≡ pick_of.Batch b ns → b ≡ l.next_batch
  pick-next [] l b ns e = absurd (cc)
  pick-next (op ∷ ops) l b ns e = go (first_of (log.has_one_of (keys (op ∷ ops))) l.batches) (log.in_window l l.batches) e
    where
      go : (o : Option (ℕ × List ℕ)) (z : Bool) → elim o as (λ y. Pick) [
        | Some c ↦ pick_of.Behind c.0
        | None ↦ elim z as (λ y. Pick) [ true ↦ pick_of.Batch l.next_batch (keys (Rattle.std.specs.Prelude.take 64 (op ∷ ops))) | false ↦ pick_of.Window (log.least l.batches) ]
      ] ≡ pick_of.Batch b ns → b ≡ l.next_batch
      go (Some c) z e = absurd (cc)
      go None true e = cc
      go None false e = absurd (cc)

  asks : (a : Asked) (d : Doing) → Counts d → Counts (ask_for a d)
  asks a d h = picks (log.pick a d.clerk.log) d (λ b ns e. pick-next (log.closure_of a d.clerk.log) d.clerk.log b ns e) h

  choose : (z : Bool) (d e : Doing) → Counts d → Counts e → Counts (elim z as (λ y. Doing) [ true ↦ d | false ↦ e ])
  choose true d e h i = h
  choose false d e h i = i

  -- Recalls, pushes and evictions.

  gives-back : (r : Recalled) (d : Doing) → Counts d → Counts (give_back r d)
  gives-back r d h =
      let to : Hold = left_of r (at r.obj d.clerk.cache.held) in
      let e : Doing = with_cache (λ k. cache.passed r.obj r.number (lower_held r.obj to (at r.obj d.clerk.cache.held) k)) d in
      sends (msg.Back (session e) (epoch e) r.obj r.number to) e (alike d e.clerk (refl, refl, refl, refl, refl, refl) h)

  recalls : (rs : List Recalled) (d : Doing) → Counts d → Counts (try_recalls rs d)
  recalls [] d h = h
  recalls (r ∷ rs) d h = recalls rs _ (choose (is_ready r d.clerk) (give_back r d) (keep_recall r (ask_for (Object r.obj) d)) (gives-back r d h) (alike (ask_for (Object r.obj) d) _ (refl, refl, refl, refl, refl, refl) (asks (Object r.obj) d h)))

  all-recalls : (d : Doing) → Counts d → Counts (answer_recalls d)
  all-recalls d h = recalls d.clerk.recalls _ (alike d _ (refl, refl, refl, refl, refl, refl) h)

  keeps-push : (n : ℕ) (d : Doing) → Counts d → Counts (keep_push n d)
  keeps-push n d h = alike d _ (refl, refl, refl, refl, refl, refl) h

  pushes : (ns : List ℕ) (d : Doing) → Counts d → Counts (try_pushes ns d)
  pushes [] d h = h
  pushes (n ∷ ns) d h = pushes ns _ (choose (is_settled (Op n) d.clerk) d (ask_for (Op n) (keep_push n d)) h (asks (Op n) (keep_push n d) (keeps-push n d h)))

  all-pushes : (d : Doing) → Counts d → Counts (ask_pushes d)
  all-pushes d h = pushes d.clerk.pushes _ (alike d _ (refl, refl, refl, refl, refl, refl) h)

  backs : (es : List (ℕ × Held)) (d : Doing) → Counts d → Counts (send_backs es d)
  backs [] d h = h
  backs (e ∷ es) d h = backs es _ (sends (msg.Back (session d) (epoch d) e.0 (e.1).number Free) d h)

  evicts : (d : Doing) → Counts d → Counts (evict d)
  evicts d h = choose (nat_le (length d.clerk.cache.held) d.clerk.cache.capacity) d (evict_unpinned (on_objects d.clerk.log.undurable) d) h (backs (cache.evicted (on_objects d.clerk.log.undurable) d.clerk.cache) _ (alike d _ (refl, refl, refl, refl, refl, refl) h))

  -- Wants and askings.

  wants : (x : ℕ) (m : Hold) (d : Doing) → Counts d → Counts (send_want x m d)
  wants x m d h =
      let e : Doing = with_clerk (λ k. record k { wanted = wanted x m d.clerk ∷ k.wanted }) d in
      sends (msg.Want (session d) (epoch d) x m (wanted x m d.clerk).last) e (alike d e.clerk (refl, refl, refl, refl, refl, refl) h)

  wants-once : (x : ℕ) (m : Hold) (d : Doing) → Counts d → Counts (want x m d)
  wants-once x m d h = choose (may_want x m d.clerk && not (list_any (is_wanted (wanted x m d.clerk)) d.clerk.wanted)) (send_want x m d) d (wants x m d h) h

  rooms : (d : Doing) → Counts d → Counts (ask_room d)
  rooms d h = choose (has_session d.clerk && is_none d.clerk.asking) (ask_anew d) d (go (nat_le last_counter d.clerk.asks)) h
    where
      go : (z : Bool) → Counts (elim z as (λ y. Doing) [ true ↦ spend counter.Ask d | false ↦ send_room (d.clerk.asks + 1) (with_clerk (λ k. record k { asking = Some (k.asks + 1); asks = k.asks + 1 }) d) ])
      go true = record { made = h.made; ops = h.ops; undurable = h.undurable; ids = h.ids; batch = h.batch; sends = h.sends }
      go false = record {
        made = h.made;
        ops = h.ops;
        undurable = h.undurable;
        ids = h.ids;
        batch = h.batch;
        sends = omega (arith, h.sends, sent-both d.outs (out.Send (msg.Room (session d) (epoch d) d.clerk.got (d.clerk.asks + 1)) ∷ []));
      }

  -- Tries.

  -- the call leaves the list, answered
  leaves : (before : List Waiting) (p : Waiting) (ws : List Waiting) (d now : Doing) → d.clerk.waiting ≡ before ++ p ∷ ws → Counts d → Alike d.clerk now.clerk → sent_in now.outs ≡ sent_in d.outs → Counts (with_clerk (λ k. record k { waiting = before ++ ws }) now)
  leaves before p ws d now q h a o = record {
    made = omega (arith, h.made, a.0);
    ops = omega (arith, h.ops, a.0, ap (λ z. z.next) a.1, ap length q, length-append before (p ∷ ws), length-append before ws);
    undurable = subst (λ z. length z.undurable < z.next) (sym a.1) h.undurable;
    ids = omega (arith, h.ids, a.3, ap length a.4, ap (λ z. z.next) a.1);
    batch = subst (λ z. 1 ≤ z.next_batch) (sym a.1) h.batch;
    sends = omega (arith, h.sends, a.5, ap (λ z. z.next_batch) a.1, o);
  }

  fewer-ids : (u : Update) (ids : List ℕ) → length ids ≤ length (less_id u ids) + 1
  fewer-ids u ids = go (is_make u) ids
    where
      go : (z : Bool) (xs : List ℕ) → length xs ≤ length (elim z as (λ y. List ℕ) [ true ↦ drop 1 xs | false ↦ xs ]) + 1
      go true [] = omega arith
      go true (x ∷ xs) = omega arith
      go false xs = omega arith

  module _ (before : List Waiting) (p : Waiting) (ws : List Waiting) (d : Doing) (h : Counts d) (q : d.clerk.waiting ≡ before ++ p ∷ ws) where
    abbrev Tries : Tried → Type 0
    Tries (Waits e) = Counts e
    Tries (Answered e) = Counts (with_clerk (λ k. record k { waiting = before ++ ws }) e)

    no-more : (a : Answer) (op : Option ℕ) → sent_in (d.outs ++ out.Answer p.no a op ∷ []) ≡ sent_in d.outs
    no-more a op = omega (arith, sent-both d.outs (out.Answer p.no a op ∷ []))

    -- an answer without an operation
    replies : (a : Answer) (xs : List ℕ) → Tries (answer_with p a None xs d)
    replies a xs = leaves before p ws d (emit (out.Answer p.no a None) (with_cache (cache.all_used xs) d)) q h (refl, refl, refl, refl, refl, refl) (no-more a None)

    -- an answer with its operation
    issues : (o : Outcome) (u : Update) → Tries (answer_with p (answer.Reply o.reply) (Some d.clerk.log.next) o.touched (with_clerk (with_update u) d))
    issues o u = record {
      made = h.made;
      ops = omega (arith, h.ops, ap length q, length-append before (p ∷ ws), length-append before ws);
      undurable = omega (arith, h.undurable, length-append d.clerk.log.undurable ((d.clerk.log.next, u) ∷ []));
      ids = omega (arith, h.ids, fewer-ids u d.clerk.ids);
      batch = h.batch;
      sends = omega (arith, h.sends, no-more (answer.Reply o.reply) (Some d.clerk.log.next));
    }

    on-await : (o : Outcome) (a : Option Asked) → Tries (await p o a d)
    on-await o None = replies (answer.Reply o.reply) o.touched
    on-await o (Some a) = go (is_owing p.begun (log.first a d.clerk.log))
      where
        go : (z : Bool) → Tries (elim z as (λ y. Tried) [ true ↦ Waits (ask_for a d) | false ↦ answer_with p (answer.Reply o.reply) None o.touched d ])
        go true = asks a d h
        go false = replies (answer.Reply o.reply) o.touched

    on-issue : (o : Outcome) (u : Update) → Tries (issue_if_room p o u d)
    on-issue o u = go (suits u d.clerk.cache) (log.is_full d.clerk.log) (log.ops_are_spent d.clerk.log)
      where
        go : (x y z : Bool) → Tries (elim x as (λ a. Tried) [
          | false ↦ Waits d
          | true ↦ elim y as (λ a. Tried) [
            | true ↦ Waits (ask_for All d)
            | false ↦ elim z as (λ a. Tried) [
              | true ↦ Waits (spend counter.Op d)
              | false ↦ answer_with p (answer.Reply o.reply) (Some d.clerk.log.next) o.touched (with_clerk (with_update u) d)
            ]
          ]
        ])
        go false y z = h
        go true true z = asks All d h
        go true false true = record { made = h.made; ops = h.ops; undurable = h.undurable; ids = h.ids; batch = h.batch; sends = h.sends }
        go true false false = issues o u

    on-outcome : (o : Outcome) (u : Option Update) → Tries (settle_outcome p o u d)
    on-outcome o None = on-await o (awaited p.call o)
    on-outcome o (Some u) = on-issue o u

    on-verdict : (v : Verdict) → Tries (try_verdict p v d)
    on-verdict (Need x m) = wants-once x m d h
    on-verdict (NeedIds xs) = rooms d h
    on-verdict (Lost ns xs) = leaves before p ws d (emit (out.Answer p.no (answer.Lost ns) None) (with_cache (cache.all_used xs) (with_clerk (λ k. record k { owed = clear xs k.owed }) d))) q h (refl, refl, refl, refl, refl, refl) (no-more (answer.Lost ns) None)
    on-verdict (Done o) = on-outcome o o.update

    keeping : Keeping Counts before p ws (try p d)
    keeping = go (try p d) (on-verdict (verdict p.call d.clerk)) (same-verdict (before ++ p ∷ ws) p (verdict p.call d.clerk) d q)
      where
        go : (t : Tried) → Tries t → OnTried (λ f. f.clerk.waiting ≡ before ++ p ∷ ws) t → Keeping Counts before p ws t
        go (Waits e) x y = (x, y)
        go (Answered e) x y = x

  settles : (d : Doing) → Counts d → Counts (settle d)
  settles = settle-keeps Counts (λ before p ws d h q. keeping before p ws d h q) all-recalls all-pushes evicts

  -- Messages.

  within : (s e : ℕ) (f : Doing → Doing) (d : Doing) → Counts d → Counts (f d) → Counts (in_session s e f d)
  within s e f d h i = choose (is_session s d.clerk.session && (e == epoch d)) (f d) d i h

  fewer : {A : Type 0} (p : A → Bool) (xs : List A) → length (filter p xs) ≤ length xs
  fewer p [] = omega arith
  fewer p (x ∷ xs) = go (p x) (fewer p xs)
    where
      go : (b : Bool) → length (filter p xs) ≤ length xs → length (cond b (x ∷ filter p xs) (filter p xs)) ≤ suc (length xs)
      go true l = omega (arith, l)
      go false l = omega (arith, l)

  keeps-batch : (b : ℕ) (d : Doing) → Counts d → Counts (with_log (log.kept b) d)
  keeps-batch b d h = record {
    made = h.made;
    ops = h.ops;
    undurable = omega (arith, h.undurable, fewer (λ op. not (Rattle.ec_volume.specs.Update.member op.0 (log.ops_in b d.clerk.log))) d.clerk.log.undurable);
    ids = h.ids;
    batch = h.batch;
    sends = h.sends;
  }

  run-length : (n first : ℕ) → length (run first n) ≡ n
  run-length zero first = refl
  run-length (suc n) first = ap suc (run-length n (first + 1))

  takes-ids : (got n first : ℕ) (d : Doing) → Counts d → Counts (take_ids got n first d)
  takes-ids got n first d h = go (got == d.clerk.got) (nat_le last_grants got)
    where
      more : (got ids next all : ℕ) → 16 * got ≤ ids + next → all ≡ ids + 16 → 16 * (got + 1) ≤ all + next
      more got ids next all l e = omega (arith, l, e)

      go : (x y : Bool) → Counts (elim x as (λ o. Doing) [ false ↦ d | true ↦ elim y as (λ o. Doing) [ true ↦ spend counter.Id d | false ↦ with_clerk (add_ids n first) d ] ])
      go false y = h
      go true true = record { made = h.made; ops = h.ops; undurable = h.undurable; ids = h.ids; batch = h.batch; sends = h.sends }
      go true false = record {
        made = h.made;
        ops = h.ops;
        undurable = h.undurable;
        ids = more d.clerk.got (length d.clerk.ids) d.clerk.log.next (length (d.clerk.ids ++ run first ids_per_grant)) h.ids (length-append d.clerk.ids (run first ids_per_grant) ∙ ap (λ z. length d.clerk.ids + z) (run-length ids_per_grant first));
        batch = h.batch;
        sends = h.sends;
      }

  takes-recall : (x n : ℕ) (to : Hold) (d : Doing) → Counts d → Counts (take_recall x n to d)
  takes-recall x n to d h = choose (nat_lt n (cache.last x d.clerk.cache)) d (keep_recall (record { obj = x; number = n; to = to }) (with_cache (mark_recall x to) d)) h (alike d _ (refl, refl, refl, refl, refl, refl) h)

  -- the calls that are kept were waiting
  refuses : (live reserved : ℕ) (ws : List Waiting) (d : Doing) → IsCounted calls (sent + sent_in d.outs) (record (d.clerk) { waiting = d.clerk.waiting ++ ws }) → Counts (refuse_makes live reserved ws d)
  refuses live reserved [] d h = record { made = h.made; ops = omega (arith, h.ops, length-append d.clerk.waiting []); undurable = h.undurable; ids = h.ids; batch = h.batch; sends = h.sends }
  refuses live reserved (w ∷ ws) d h = go (refuses live reserved ws) (idless (verdict w.call d.clerk))
    where
      go : ((e : Doing) → IsCounted calls (sent + sent_in e.outs) (record (e.clerk) { waiting = e.clerk.waiting ++ ws }) → Counts (refuse_makes live reserved ws e)) → (o : Option (List ℕ)) → Counts (refuse_makes live reserved ws (elim o as (λ y. Doing) [ Some xs ↦ refuse_make live reserved w.no xs d | None ↦ keep_call w d ]))
      go r (Some xs) = r (refuse_make live reserved w.no xs d) (record {
        made = h.made;
        ops = omega (arith, h.ops, length-append d.clerk.waiting (w ∷ ws), length-append d.clerk.waiting ws);
        undurable = h.undurable;
        ids = h.ids;
        batch = h.batch;
        sends = omega (arith, h.sends, sent-both d.outs (out.Answer w.no (answer.NoRoom live reserved) None ∷ []));
      })
      go r None = r (keep_call w d) (record {
        made = h.made;
        ops = omega (arith, h.ops, length-append d.clerk.waiting (w ∷ ws), length-append (d.clerk.waiting ++ w ∷ []) ws, length-append d.clerk.waiting (w ∷ []));
        undurable = h.undurable;
        ids = h.ids;
        batch = h.batch;
        sends = h.sends;
      })

  takes-no-room : (ask live reserved : ℕ) (d : Doing) → Counts d → Counts (take_no_room ask live reserved d)
  takes-no-room ask live reserved d h =
      choose (is_session ask d.clerk.asking) (refuse_makes live reserved d.clerk.waiting (with_clerk (λ k. record k { asking = None; waiting = [] }) d)) d
      (refuses live reserved d.clerk.waiting (with_clerk (λ k. record k { asking = None; waiting = [] }) d) (record { made = h.made; ops = h.ops; undurable = h.undurable; ids = h.ids; batch = h.batch; sends = h.sends })) h

  takes-opened : (age : Age) (s e : ℕ) (d : Doing) → Counts d → Counts (take_opened age s e d)
  takes-opened age s e d h = choose (not (has_session d.clerk) && same_age age d.clerk.age) (send (msg.Claim s e []) (with_clerk (λ k. record k { session = Some s; epoch = e }) d)) d (sends (msg.Claim s e []) (with_clerk (λ k. record k { session = Some s; epoch = e }) d) (alike d _ (refl, refl, refl, refl, refl, refl) h)) h

  hellos : (d : Doing) → Counts d → Counts (hello d)
  hellos d h = sends (msg.Hello d.clerk.id d.clerk.age) d h

  or-hellos : (s : ℕ) (f : Doing → Doing) (d : Doing) → Counts d → Counts (f d) → Counts (or_hello s f d)
  or-hellos s f d h i = go (has_session d.clerk)
    where
      go : (z : Bool) → Counts (elim z as (λ y. Doing) [ false ↦ hello d | true ↦ elim (is_session s d.clerk.session) as (λ y. Doing) [ true ↦ f d | false ↦ d ] ])
      go false = hellos d h
      go true = choose (is_session s d.clerk.session) (f d) d i h

  takes-ended : (w : Window) (d : Doing) → Counts d → Counts (take_ended w d)
  takes-ended w d h =
      choose (nat_le last_round d.clerk.age.round) (spend counter.Round d) (hello (emit (out.Told (keys (log.lost w d.clerk.log))) (with_clerk (lose (log.lost w d.clerk.log)) d)))
      (record { made = h.made; ops = h.ops; undurable = h.undurable; ids = h.ids; batch = h.batch; sends = h.sends })
      (hellos (emit (out.Told (keys (log.lost w d.clerk.log))) (with_clerk (lose (log.lost w d.clerk.log)) d)) (emits (out.Told (keys (log.lost w d.clerk.log))) (with_clerk (lose (log.lost w d.clerk.log)) d) refl lost))
    where
      lost : Counts (with_clerk (lose (log.lost w d.clerk.log)) d)
      lost = record { made = h.made; ops = h.ops; undurable = omega (arith, h.undurable); ids = omega arith; batch = omega arith; sends = omega (arith, h.sends, h.batch) }

  needs-again : (done ps : List (ℕ × Hold)) (d : Doing) → Counts d → Counts (resend_needs done ps d)
  needs-again done [] d h = h
  needs-again done (p ∷ ps) d h = needs-again (p ∷ done) ps _ (choose (may_want p.0 p.1 d.clerk && not (list_any (is_need p.0 p.1) done)) (send_want p.0 p.1 d) d (wants p.0 p.1 d h) h)

  room-again : (o : Option ℕ) (d : Doing) → Counts d → Counts (resend_room o d)
  room-again None d h = h
  room-again (Some n) d h = sends (msg.Room (session d) (epoch d) d.clerk.got n) d h

  batches-again : (bs : List ℕ) (d : Doing) → Counts d → Counts (resend_batches bs d)
  batches-again [] d h = h
  batches-again (b ∷ bs) d h = batches-again bs (send_batch b d) (sends (msg.Flush (session d) (epoch d) b (log.batch b d.clerk.log)) d h)

  outstanding : (d : Doing) → Counts d → Counts (send_outstanding d)
  outstanding d h =
      let e : Doing = resend_needs [] (needs d.clerk.waiting d.clerk) d in
      batches-again (keys e.clerk.log.batches) (resend_room e.clerk.asking e) (room-again e.clerk.asking e (needs-again [] (needs d.clerk.waiting d.clerk) d h))

  entered : (e : ℕ) (z : Bool) (d : Doing) → Counts d → Counts (elim z as (λ y. Doing) [ true ↦ with_clerk (enter_epoch e) d | false ↦ d ])
  entered e true d h = alike d (with_clerk (enter_epoch e) d).clerk (refl, refl, refl, refl, refl, refl) h
  entered e false d h = h

  claims : (d : Doing) → Counts d → Counts (claim d)
  claims d h = sends (msg.Claim (session d) (epoch d) (cache.tokens d.clerk.cache)) d h

  takes-restarted : (e : ℕ) (d : Doing) → Counts d → Counts (take_restarted e d)
  takes-restarted e d h =
      let f : Doing = elim (nat_lt (epoch d) e) as (λ y. Doing) [ true ↦ with_clerk (enter_epoch e) d | false ↦ d ] in
      choose (nat_lt e (epoch d)) d (send_outstanding (claim f)) h (outstanding (claim f) (claims f (entered e (nat_lt (epoch d) e) d h)))

  takes : (m : Msg) (d : Doing) → Counts d → Counts (taken m d)
  takes (msg.Opened age s e) d h = takes-opened age s e d h
  takes (msg.Grant s e x n m i) d h = within s e (with_cache (cache.take x m n i)) d h (alike d _ (refl, refl, refl, refl, refl, refl) h)
  takes (msg.Recall s e x n to) d h = within s e (take_recall x n to) d h (takes-recall x n to d h)
  takes (msg.Kept s e b) d h = choose (is_session s d.clerk.session) (with_log (log.kept b) d) d (keeps-batch b d h) h
  takes (msg.Ids s e got n first) d h = within s e (take_ids got n first) d h (takes-ids got n first d h)
  takes (msg.NoRoom s e ask live reserved) d h = takes-no-room ask live reserved d h
  takes (msg.Ended s low mask) d h = or-hellos s (take_ended (record { low = low; mask = mask })) d h (takes-ended (record { low = low; mask = mask }) d h)
  takes (msg.Restarted s e) d h = or-hellos s (take_restarted e) d h (takes-restarted e d h)
  takes (msg.OldBoot asked greatest) d h = choose (same_age asked d.clerk.age) (emit (out.OldBoot greatest) d) d (emits (out.OldBoot greatest) d refl h) h
  takes (msg.Hello i x) d h = h
  takes (msg.Want s e x m n) d h = h
  takes (msg.Back s e x n m) d h = h
  takes (msg.Flush s e b ops) d h = h
  takes (msg.Room s e got ask) d h = h
  takes (msg.Claim s e l) d h = h
  takes (msg.Bye s e) d h = h

-- Whole steps.

begins : (calls sent : ℕ) (k : Clerk) → IsCounted calls sent k → IsCounted calls (sent + 0) k
begins calls sent k h = record { made = h.made; ops = h.ops; undurable = h.undurable; ids = h.ids; batch = h.batch; sends = omega (arith, h.sends) }

pub messages-count : (calls sent : ℕ) (m : Msg) (k : Clerk) → IsCounted calls sent k → IsCounted calls (sent + sent_in (take m k).outs) (take m k).clerk
messages-count calls sent m k h = settles calls sent (taken m (doing k)) (takes calls sent m (doing k) (begins calls sent k h))

pub calls-count : (calls sent : ℕ) (cl : Call) (k : Clerk) → IsCounted calls sent k → nat_le last_counter k.calls ≡ false → IsCounted (calls + 1) (sent + sent_in (begin cl k).outs) (begin cl k).clerk
calls-count calls sent cl k h e = subst (λ d. IsCounted (calls + 1) (sent + sent_in d.outs) d.clerk) (sym (ap (λ z. elim z as (λ y. Doing) [ true ↦ spend counter.CallNo (doing k) | false ↦ settle (doing (add_call cl k)) ]) e))
    (settles (calls + 1) sent (doing (add_call cl k)) (record {
      made = omega (arith, h.made);
      ops = omega (arith, h.ops, length-append k.waiting (record { no = k.calls + 1; call = cl; begun = Rattle.std.specs.Prelude.◌-◌ k.log.next 1 } ∷ []));
      undurable = h.undurable;
      ids = h.ids;
      batch = h.batch;
      sends = omega (arith, h.sends);
    }))

pub pushes-count : (calls sent n : ℕ) (k : Clerk) → IsCounted calls sent k → IsCounted calls (sent + sent_in (push n k).outs) (push n k).clerk
pushes-count calls sent n k h = settles calls sent _ (choose calls sent (nat_le k.log.first n) (keep_push n (doing k)) (doing k) (keeps-push calls sent n (doing k) (begins calls sent k h)) (begins calls sent k h))
