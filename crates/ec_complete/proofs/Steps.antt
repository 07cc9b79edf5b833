-- A clerk's step keeps its ids in store, and refuses no call, but where it's refused ids.
use Rattle.std.proofs.Common.{◌≡◌, refl, sym, ap, subst, ◌∙◌, arith, ◌≤◌, ◌+◌, ◌*◌, ℕ, suc, zero, Bool, true, false, not, ◌==◌, ◌&&◌, length, length-append, List, [], ◌∷◌, ◌++◌, Option, Some, None}
use Rattle.std.specs.Prelude.{drop, is_none, nat_le, nat_lt}
use Rattle.std.specs.List.{list_any}
use Rattle.ec_base.specs.Limits.{last_counter}
use Rattle.ec_base.specs.Tables.{at, keys}
use Rattle.ec_base.specs.declared.counter.Counter.TheVariants as counter
use Rattle.ec_base.specs.declared.ids.Age.{Age}
use Rattle.ec_base.specs.declared.ids.Hold.{Hold}
use Rattle.ec_base.specs.declared.ids.Hold.TheVariants.{Free}
use Rattle.ec_volume.specs.Update.{is_make}
use Rattle.ec_volume.specs.declared.update.Update.{Update}
use Rattle.ec_plain.specs.declared.call.Call.{Call}
use Rattle.ec_plain.specs.declared.call.Outcome.{Outcome}
use Rattle.ec_history.specs.History.{Each}
use Rattle.ec_history.specs.declared.entry.Answer.{Answer}
use Rattle.ec_history.specs.declared.entry.Answer.TheVariants as answer
use Rattle.ec_cache.specs.OfReport.Report.{clear}
use Rattle.ec_sessions.specs.Limits.{ids_per_grant, last_grants, last_round}
use Rattle.ec_sessions.specs.Slots.{run}
use Rattle.ec_sessions.specs.declared.window.Window.{Window}
use Rattle.ec_wire.specs.declared.msg.Msg.{Msg}
use Rattle.ec_wire.specs.declared.msg.Msg.TheVariants as msg
use Rattle.ec_cache.specs.Cache as cache
use Rattle.ec_cache.specs.declared.state.Held.{Held}
use Rattle.ec_log.specs.Log as log
use Rattle.ec_log.specs.declared.state.Asked.{Asked}
use Rattle.ec_log.specs.declared.state.Asked.TheVariants.{All, Object, Op}
use Rattle.ec_log.specs.declared.state.Pick.{Pick}
use Rattle.ec_log.specs.declared.state.Pick.TheVariants as pick_of
use Rattle.ec_cache.specs.declared.resolve.verdict.Verdict.{Verdict}
use Rattle.ec_cache.specs.declared.resolve.verdict.Verdict.TheVariants.{Need, Lost, NeedIds, Done}
use Rattle.ec_protocol.specs.Clerk.{Answered, Doing, Tried, Waits, add_call, add_ids, answer_recalls, answer_with, ask_anew, ask_for, ask_pushes, ask_room, await, awaited, begin, claim, doing, emit, enter_epoch, epoch, evict, evict_unpinned, give_back, has_session, hello, in_session, is_need, is_owing, is_ready, is_session, is_settled, is_wanted, issue_if_room, keep_push, keep_recall, left_of, less_id, lose, lower_held, mark_recall, may_want, needs, new_clerk, on_objects, or_hello, push, resend_batches, resend_needs, resend_room, same_age, send, send_backs, send_batch, send_outstanding, send_picked, send_room, send_want, session, settle, settle_outcome, spend, start, suits, take, take_ended, take_ids, take_opened, take_recall, take_restarted, taken, try, try_pushes, try_recalls, try_verdict, verdict, want, wanted, with_cache, with_clerk, with_log, with_update}
use Rattle.ec_protocol.specs.declared.clerk.Clerk.{Clerk}
use Rattle.ec_protocol.specs.declared.clerk.Out.{Out}
use Rattle.ec_protocol.specs.declared.clerk.Out.TheVariants as out
use Rattle.ec_protocol.specs.declared.clerk.Recalled.{Recalled}
use Rattle.ec_protocol.specs.declared.clerk.Waiting.{Waiting}
use Rattle.ec_coherence.proofs.ForServer.Lists.{each-more}
use Rattle.ec_coherence.proofs.ForClerk.Settling.{Keeping, settle-keeps}
use Rattle.ec_coherence.proofs.ForClerk.Try.{OnTried}
use Rattle.ec_coherence.proofs.ForClerk.TriedList.{same-verdict}
use Rattle.ec_lawful.specs.Creates.{creates}
use Rattle.ec_complete.specs.Rooms.{ComesWell, GrantsRoom, HasRoomIn, IsStocked, makes_in}
use Rattle.ec_complete.proofs.Making.{done-creates, ids-create}
use Rattle.ec_base.specs.Bools.{one_if}
use Rattle.ec_base.proofs.Options.{none_some}

pub makes-both : (ws vs : List Waiting) → makes_in (ws ++ vs) ≡ makes_in ws + makes_in vs
makes-both [] vs = omega arith
makes-both (w ∷ ws) vs = omega (arith, makes-both ws vs)

module _ (makes : ℕ) where
  -- a step under way
  record Stocks (d : Doing) : Type 0 where
    clerk : IsStocked makes d.clerk
    outs : Each HasRoomIn d.outs

  -- something comes out
  emits : (o : Out) (d : Doing) → HasRoomIn o → Stocks d → Stocks (emit o d)
  emits o d p h = record { clerk = h.clerk; outs = each-more HasRoomIn d.outs (o ∷ []) h.outs (p, tt) }

  sends : (m : Msg) (d : Doing) → GrantsRoom m → Stocks d → Stocks (send m d)
  sends m d p h = emits (out.Send m) d p h

  -- what isn't in store changes
  abbrev Alike : Clerk → Clerk → Type 0
  Alike k now = (now.waiting ≡ k.waiting) × (now.got ≡ k.got) × (now.ids ≡ k.ids) × (now.asking ≡ k.asking)

  alike-stock : (k now : Clerk) → Alike k now → IsStocked makes k → IsStocked makes now
  alike-stock k now q h = record {
    one = subst (λ ws. length ws ≤ 1) (sym q.0) h.one;
    waits = subst (λ ws. makes_in ws ≤ makes) (sym q.0) h.waits;
    ids = omega (arith, h.ids, q.1, ap makes_in q.0, ap length q.2);
    few = subst (λ z. length z ≤ 16) (sym q.2) h.few;
    asks = λ n e. subst (λ ws. makes_in ws ≡ length ws) (sym q.0) (h.asks n (sym q.3 ∙ e));
  }

  alike : (d : Doing) (now : Clerk) → Alike d.clerk now → Stocks d → Stocks (record d { clerk = now })
  alike d now q h = record { clerk = alike-stock d.clerk now q h.clerk; outs = h.outs }

  choose : (z : Bool) (d e : Doing) → Stocks d → Stocks e → Stocks (elim z as (λ y. Doing) [ true ↦ d | false ↦ e ])
  choose true d e h i = h
  choose false d e h i = i

  -- Batches, recalls, pushes and evictions.

  picks : (p : Pick) (d : Doing) → Stocks d → Stocks (send_picked p d)
  picks (pick_of.Batch b ns) d h =
      choose (log.batches_are_spent d.clerk.log) (spend counter.Batch d) (send_batch b (with_log (log.after_pick (pick_of.Batch b ns)) d)) (record { clerk = h.clerk; outs = h.outs })
      (sends (msg.Flush (session d) (epoch d) b (log.batch b (log.after_pick (pick_of.Batch b ns) d.clerk.log))) (with_log (log.after_pick (pick_of.Batch b ns)) d) tt (alike d _ (refl, refl, refl, refl) h))
  picks pick_of.Settled d h = h
  picks (pick_of.Behind b) d h = h
  picks (pick_of.Window b) d h = h

  asks : (a : Asked) (d : Doing) → Stocks d → Stocks (ask_for a d)
  asks a d h = picks (log.pick a d.clerk.log) d h

  gives-back : (r : Recalled) (d : Doing) → Stocks d → Stocks (give_back r d)
  gives-back r d h =
      let to : Hold = left_of r (at r.obj d.clerk.cache.held) in
      let e : Doing = with_cache (λ k. cache.passed r.obj r.number (lower_held r.obj to (at r.obj d.clerk.cache.held) k)) d in
      sends (msg.Back (session e) (epoch e) r.obj r.number to) e tt (alike d e.clerk (refl, refl, refl, refl) h)

  recalls : (rs : List Recalled) (d : Doing) → Stocks d → Stocks (try_recalls rs d)
  recalls [] d h = h
  recalls (r ∷ rs) d h = recalls rs _ (choose (is_ready r d.clerk) (give_back r d) (keep_recall r (ask_for (Object r.obj) d)) (gives-back r d h) (alike (ask_for (Object r.obj) d) _ (refl, refl, refl, refl) (asks (Object r.obj) d h)))

  all-recalls : (d : Doing) → Stocks d → Stocks (answer_recalls d)
  all-recalls d h = recalls d.clerk.recalls _ (alike d _ (refl, refl, refl, refl) h)

  keeps-push : (n : ℕ) (d : Doing) → Stocks d → Stocks (keep_push n d)
  keeps-push n d h = alike d _ (refl, refl, refl, refl) h

  pushes : (ns : List ℕ) (d : Doing) → Stocks d → Stocks (try_pushes ns d)
  pushes [] d h = h
  pushes (n ∷ ns) d h = pushes ns _ (choose (is_settled (Op n) d.clerk) d (ask_for (Op n) (keep_push n d)) h (asks (Op n) (keep_push n d) (keeps-push n d h)))

  all-pushes : (d : Doing) → Stocks d → Stocks (ask_pushes d)
  all-pushes d h = pushes d.clerk.pushes _ (alike d _ (refl, refl, refl, refl) h)

  backs : (es : List (ℕ × Held)) (d : Doing) → Stocks d → Stocks (send_backs es d)
  backs [] d h = h
  backs (e ∷ es) d h = backs es _ (sends (msg.Back (session d) (epoch d) e.0 (e.1).number Free) d tt h)

  evicts : (d : Doing) → Stocks d → Stocks (evict d)
  evicts d h = choose (nat_le (length d.clerk.cache.held) d.clerk.cache.capacity) d (evict_unpinned (on_objects d.clerk.log.undurable) d) h (backs (cache.evicted (on_objects d.clerk.log.undurable) d.clerk.cache) _ (alike d _ (refl, refl, refl, refl) h))

  -- Wants and askings.

  wants : (x : ℕ) (m : Hold) (d : Doing) → Stocks d → Stocks (send_want x m d)
  wants x m d h =
      let e : Doing = with_clerk (λ k. record k { wanted = wanted x m d.clerk ∷ k.wanted }) d in
      sends (msg.Want (session d) (epoch d) x m (wanted x m d.clerk).last) e tt (alike d e.clerk (refl, refl, refl, refl) h)

  wants-once : (x : ℕ) (m : Hold) (d : Doing) → Stocks d → Stocks (want x m d)
  wants-once x m d h = choose (may_want x m d.clerk && not (list_any (is_wanted (wanted x m d.clerk)) d.clerk.wanted)) (send_want x m d) d (wants x m d h) h

  -- Tries.

  fewer-makes : (before : List Waiting) (p : Waiting) (ws : List Waiting) → makes_in (before ++ p ∷ ws) ≡ makes_in (before ++ ws) + one_if (creates p.call)
  fewer-makes before p ws = omega (arith, makes-both before (p ∷ ws), makes-both before ws)

  fewer : (before : List Waiting) (p : Waiting) (ws : List Waiting) → length (before ++ p ∷ ws) ≡ length (before ++ ws) + 1
  fewer before p ws = omega (arith, length-append before (p ∷ ws), length-append before ws)

  none-make : (ws : List Waiting) → length ws ≤ 0 → makes_in ws ≡ length ws
  none-make [] l = refl
  none-make (w ∷ ws) l = absurd (omega (arith, l))

  -- no other call waits
  alone : (before : List Waiting) (p : Waiting) (ws : List Waiting) (d : Doing) → d.clerk.waiting ≡ before ++ p ∷ ws → Stocks d → makes_in (before ++ ws) ≡ length (before ++ ws)
  alone before p ws d q h = none-make (before ++ ws) (omega (arith, (h.clerk).one, ap length q, fewer before p ws))

  -- the call leaves the list, answered
  leaves : (before : List Waiting) (p : Waiting) (ws : List Waiting) (d : Doing) (now : Clerk) → d.clerk.waiting ≡ before ++ p ∷ ws → Stocks d → Alike d.clerk now → IsStocked makes (record now { waiting = before ++ ws })
  leaves before p ws d now q h a = record {
    one = omega (arith, (h.clerk).one, ap length q, fewer before p ws);
    waits = omega (arith, (h.clerk).waits, ap makes_in q, fewer-makes before p ws);
    ids = omega (arith, (h.clerk).ids, a.1, ap length a.2, ap makes_in q, fewer-makes before p ws);
    few = subst (λ z. length z ≤ 16) (sym a.2) (h.clerk).few;
    asks = λ n e. alone before p ws d q h;
  }

  -- ids are asked for where the call makes an object
  rooms : (before : List Waiting) (p : Waiting) (ws : List Waiting) (d : Doing) → d.clerk.waiting ≡ before ++ p ∷ ws → creates p.call ≡ true → Stocks d → Stocks (ask_room d)
  rooms before p ws d q m h =
      choose (has_session d.clerk && is_none d.clerk.asking) (ask_anew d) d
      (choose (nat_le last_counter d.clerk.asks) (spend counter.Ask d) (send_room (d.clerk.asks + 1) asked) (record { clerk = h.clerk; outs = h.outs }) (sends (msg.Room (session d) (epoch d) d.clerk.got (d.clerk.asks + 1)) asked tt (record { clerk = now; outs = h.outs })))
      h
    where
      asked : Doing
      asked = with_clerk (λ k. record k { asking = Some (k.asks + 1); asks = k.asks + 1 }) d

      now : IsStocked makes (record (d.clerk) { asking = Some (d.clerk.asks + 1); asks = d.clerk.asks + 1 })
      now = record {
        one = (h.clerk).one;
        waits = (h.clerk).waits;
        ids = (h.clerk).ids;
        few = (h.clerk).few;
        asks = λ n e. omega (arith, ap makes_in q, ap length q, fewer-makes before p ws, fewer before p ws, alone before p ws d q h, ap one_if m);
      }

  -- an id is taken only by a call that creates
  id-taken : (u : Update) (ids : List ℕ) (b : Bool) → (is_make u ≡ true → b ≡ true) → length ids ≤ length (less_id u ids) + one_if b
  id-taken u ids b f = go (is_make u) ids f
    where
      go : (z : Bool) (xs : List ℕ) → (z ≡ true → b ≡ true) → length xs ≤ length (elim z as (λ y. List ℕ) [ true ↦ drop 1 xs | false ↦ xs ]) + one_if b
      go true [] f = omega arith
      go true (x ∷ xs) f = subst (λ c. suc (length xs) ≤ length xs + one_if c) (sym (f refl)) (omega arith)
      go false xs f = omega arith

  no-more-ids : (u : Update) (ids : List ℕ) → length (less_id u ids) ≤ length ids
  no-more-ids u ids = go (is_make u) ids
    where
      go : (z : Bool) (xs : List ℕ) → length (elim z as (λ y. List ℕ) [ true ↦ drop 1 xs | false ↦ xs ]) ≤ length xs
      go true [] = omega arith
      go true (x ∷ xs) = omega arith
      go false xs = omega arith

  module _ (before : List Waiting) (p : Waiting) (ws : List Waiting) (d : Doing) (h : Stocks d) (q : d.clerk.waiting ≡ before ++ p ∷ ws) where
    abbrev Tries : Tried → Type 0
    Tries (Waits e) = Stocks e
    Tries (Answered e) = Stocks (with_clerk (λ k. record k { waiting = before ++ ws }) e)

    -- an answer without an operation
    replies : (a : Answer) (xs : List ℕ) → HasRoomIn (out.Answer p.no a None) → Tries (answer_with p a None xs d)
    replies a xs r = record { clerk = leaves before p ws d (with_cache (cache.all_used xs) d).clerk q h (refl, refl, refl, refl); outs = each-more HasRoomIn d.outs (out.Answer p.no a None ∷ []) h.outs (r, tt) }

    -- an answer with its operation
    issues : (o : Outcome) (u : Update) → (is_make u ≡ true → creates p.call ≡ true) → Tries (answer_with p (answer.Reply o.reply) (Some d.clerk.log.next) o.touched (with_clerk (with_update u) d))
    issues o u f = record {
      clerk = record {
        one = omega (arith, (h.clerk).one, ap length q, fewer before p ws);
        waits = omega (arith, (h.clerk).waits, ap makes_in q, fewer-makes before p ws);
        ids = omega (arith, (h.clerk).ids, ap makes_in q, fewer-makes before p ws, id-taken u d.clerk.ids (creates p.call) f);
        few = omega (arith, (h.clerk).few, no-more-ids u d.clerk.ids);
        asks = λ n e. alone before p ws d q h;
      };
      outs = each-more HasRoomIn d.outs (out.Answer p.no (answer.Reply o.reply) (Some d.clerk.log.next) ∷ []) h.outs (tt, tt);
    }

    on-await : (o : Outcome) (a : Option Asked) → Tries (await p o a d)
    on-await o None = replies (answer.Reply o.reply) o.touched tt
    on-await o (Some a) = go (is_owing p.begun (log.first a d.clerk.log))
      where
        go : (z : Bool) → Tries (elim z as (λ y. Tried) [ true ↦ Waits (ask_for a d) | false ↦ answer_with p (answer.Reply o.reply) None o.touched d ])
        go true = asks a d h
        go false = replies (answer.Reply o.reply) o.touched tt

    on-issue : (o : Outcome) (u : Update) → (is_make u ≡ true → creates p.call ≡ true) → Tries (issue_if_room p o u d)
    on-issue o u f = go (suits u d.clerk.cache) (log.is_full d.clerk.log) (log.ops_are_spent d.clerk.log)
      where
        go : (x y z : Bool) → Tries (elim x as (λ a. Tried) [
          | false ↦ Waits d
          | true ↦ elim y as (λ a. Tried) [
            | true ↦ Waits (ask_for All d)
            | false ↦ elim z as (λ a. Tried) [
              | true ↦ Waits (spend counter.Op d)
              | false ↦ answer_with p (answer.Reply o.reply) (Some d.clerk.log.next) o.touched (with_clerk (with_update u) d)
            ]
          ]
        ])
        go false y z = h
        go true true z = asks All d h
        go true false true = record { clerk = h.clerk; outs = h.outs }
        go true false false = issues o u f

    on-outcome : (o : Outcome) (u : Option Update) → ((v : Update) → u ≡ Some v → is_make v ≡ true → creates p.call ≡ true) → Tries (settle_outcome p o u d)
    on-outcome o None f = on-await o (awaited p.call o)
    on-outcome o (Some u) f = on-issue o u (f u refl)

    on-verdict : (v : Verdict) → verdict p.call d.clerk ≡ v → Tries (try_verdict p v d)
    on-verdict (Need x m) e = wants-once x m d h
    on-verdict (NeedIds xs) e = rooms before p ws d q (ids-create d.clerk p.call xs e) h
    on-verdict (Lost ns xs) e = record { clerk = leaves before p ws d (with_cache (cache.all_used xs) (with_clerk (λ k. record k { owed = clear xs k.owed }) d)).clerk q h (refl, refl, refl, refl); outs = each-more HasRoomIn d.outs (out.Answer p.no (answer.Lost ns) None ∷ []) h.outs (tt, tt) }
    on-verdict (Done o) e = on-outcome o o.update (λ v r m. done-creates d.clerk p.call o e v r m)

    keeping : Keeping Stocks before p ws (try p d)
    keeping = go (try p d) (on-verdict (verdict p.call d.clerk) refl) (same-verdict (before ++ p ∷ ws) p (verdict p.call d.clerk) d q)
      where
        go : (t : Tried) → Tries t → OnTried (λ f. f.clerk.waiting ≡ before ++ p ∷ ws) t → Keeping Stocks before p ws t
        go (Waits e) x y = (x, y)
        go (Answered e) x y = x

  settles : (d : Doing) → Stocks d → Stocks (settle d)
  settles = settle-keeps Stocks (λ before p ws d h q. keeping before p ws d h q) all-recalls all-pushes evicts

  -- Messages.

  within : (s e : ℕ) (f : Doing → Doing) (d : Doing) → Stocks d → Stocks (f d) → Stocks (in_session s e f d)
  within s e f d h i = choose (is_session s d.clerk.session && (e == epoch d)) (f d) d i h

  run-length : (n first : ℕ) → length (run first n) ≡ n
  run-length zero first = refl
  run-length (suc n) first = ap suc (run-length n (first + 1))

  -- where none is left
  takes-ids : (got n first : ℕ) (d : Doing) → d.clerk.ids ≡ [] → Stocks d → Stocks (take_ids got n first d)
  takes-ids got n first d none h = go (got == d.clerk.got) (nat_le last_grants got)
    where
      more : (got makes in-wait ids all : ℕ) → 16 * got + in-wait ≤ ids + makes → all ≡ ids + 16 → 16 * (got + 1) + in-wait ≤ all + makes
      more got makes in-wait ids all l e = omega (arith, l, e)

      now : length (d.clerk.ids ++ run first ids_per_grant) ≡ length d.clerk.ids + 16
      now = length-append d.clerk.ids (run first ids_per_grant) ∙ ap (λ z. length d.clerk.ids + z) (run-length ids_per_grant first)

      go : (x y : Bool) → Stocks (elim x as (λ o. Doing) [ false ↦ d | true ↦ elim y as (λ o. Doing) [ true ↦ spend counter.Id d | false ↦ with_clerk (add_ids n first) d ] ])
      go false y = h
      go true true = record { clerk = h.clerk; outs = h.outs }
      go true false = record {
        clerk = record {
          one = (h.clerk).one;
          waits = (h.clerk).waits;
          ids = more d.clerk.got makes (makes_in d.clerk.waiting) (length d.clerk.ids) (length (d.clerk.ids ++ run first ids_per_grant)) (h.clerk).ids now;
          few = omega (arith, now, ap length none);
          asks = λ n e. absurd (none_some e);
        };
        outs = h.outs;
      }

  takes-recall : (x n : ℕ) (to : Hold) (d : Doing) → Stocks d → Stocks (take_recall x n to d)
  takes-recall x n to d h = choose (nat_lt n (cache.last x d.clerk.cache)) d (keep_recall (record { obj = x; number = n; to = to }) (with_cache (mark_recall x to) d)) h (alike d _ (refl, refl, refl, refl) h)

  takes-opened : (age : Age) (s e : ℕ) (d : Doing) → Stocks d → Stocks (take_opened age s e d)
  takes-opened age s e d h = choose (not (has_session d.clerk) && same_age age d.clerk.age) (send (msg.Claim s e []) (with_clerk (λ k. record k { session = Some s; epoch = e }) d)) d (sends (msg.Claim s e []) (with_clerk (λ k. record k { session = Some s; epoch = e }) d) tt (alike d _ (refl, refl, refl, refl) h)) h

  hellos : (d : Doing) → Stocks d → Stocks (hello d)
  hellos d h = sends (msg.Hello d.clerk.id d.clerk.age) d tt h

  or-hellos : (s : ℕ) (f : Doing → Doing) (d : Doing) → Stocks d → Stocks (f d) → Stocks (or_hello s f d)
  or-hellos s f d h i = go (has_session d.clerk)
    where
      go : (z : Bool) → Stocks (elim z as (λ y. Doing) [ false ↦ hello d | true ↦ elim (is_session s d.clerk.session) as (λ y. Doing) [ true ↦ f d | false ↦ d ] ])
      go false = hellos d h
      go true = choose (is_session s d.clerk.session) (f d) d i h

  takes-ended : (w : Window) (d : Doing) → Stocks d → Stocks (take_ended w d)
  takes-ended w d h =
      choose (nat_le last_round d.clerk.age.round) (spend counter.Round d) (hello (emit (out.Told (keys (log.lost w d.clerk.log))) (with_clerk (lose (log.lost w d.clerk.log)) d))) (record { clerk = h.clerk; outs = h.outs })
      (hellos (emit (out.Told (keys (log.lost w d.clerk.log))) (with_clerk (lose (log.lost w d.clerk.log)) d)) (emits (out.Told (keys (log.lost w d.clerk.log))) (with_clerk (lose (log.lost w d.clerk.log)) d) tt lost))
    where
      lost : Stocks (with_clerk (lose (log.lost w d.clerk.log)) d)
      lost = record { clerk = record { one = (h.clerk).one; waits = (h.clerk).waits; ids = omega (arith, (h.clerk).waits); few = omega arith; asks = λ n e. absurd (none_some e) }; outs = h.outs }

  needs-again : (done ps : List (ℕ × Hold)) (d : Doing) → Stocks d → Stocks (resend_needs done ps d)
  needs-again done [] d h = h
  needs-again done (p ∷ ps) d h = needs-again (p ∷ done) ps _ (choose (may_want p.0 p.1 d.clerk && not (list_any (is_need p.0 p.1) done)) (send_want p.0 p.1 d) d (wants p.0 p.1 d h) h)

  room-again : (o : Option ℕ) (d : Doing) → Stocks d → Stocks (resend_room o d)
  room-again None d h = h
  room-again (Some n) d h = sends (msg.Room (session d) (epoch d) d.clerk.got n) d tt h

  batches-again : (bs : List ℕ) (d : Doing) → Stocks d → Stocks (resend_batches bs d)
  batches-again [] d h = h
  batches-again (b ∷ bs) d h = batches-again bs (send_batch b d) (sends (msg.Flush (session d) (epoch d) b (log.batch b d.clerk.log)) d tt h)

  outstanding : (d : Doing) → Stocks d → Stocks (send_outstanding d)
  outstanding d h =
      let e : Doing = resend_needs [] (needs d.clerk.waiting d.clerk) d in
      batches-again (keys e.clerk.log.batches) (resend_room e.clerk.asking e) (room-again e.clerk.asking e (needs-again [] (needs d.clerk.waiting d.clerk) d h))

  entered : (e : ℕ) (z : Bool) (d : Doing) → Stocks d → Stocks (elim z as (λ y. Doing) [ true ↦ with_clerk (enter_epoch e) d | false ↦ d ])
  entered e true d h = alike d (with_clerk (enter_epoch e) d).clerk (refl, refl, refl, refl) h
  entered e false d h = h

  claims : (d : Doing) → Stocks d → Stocks (claim d)
  claims d h = sends (msg.Claim (session d) (epoch d) (cache.tokens d.clerk.cache)) d tt h

  takes-restarted : (e : ℕ) (d : Doing) → Stocks d → Stocks (take_restarted e d)
  takes-restarted e d h =
      let f : Doing = elim (nat_lt (epoch d) e) as (λ y. Doing) [ true ↦ with_clerk (enter_epoch e) d | false ↦ d ] in
      choose (nat_lt e (epoch d)) d (send_outstanding (claim f)) h (outstanding (claim f) (claims f (entered e (nat_lt (epoch d) e) d h)))

  takes : (m : Msg) (d : Doing) → ComesWell m d.clerk → Stocks d → Stocks (taken m d)
  takes (msg.Opened age s e) d w h = takes-opened age s e d h
  takes (msg.Grant s e x n m i) d w h = within s e (with_cache (cache.take x m n i)) d h (alike d _ (refl, refl, refl, refl) h)
  takes (msg.Recall s e x n to) d w h = within s e (take_recall x n to) d h (takes-recall x n to d h)
  takes (msg.Kept s e b) d w h = choose (is_session s d.clerk.session) (with_log (log.kept b) d) d (alike d _ (refl, refl, refl, refl) h) h
  takes (msg.Ids s e got n first) d w h = within s e (take_ids got n first) d h (takes-ids got n first d w h)
  takes (msg.NoRoom s e ask live reserved) d w h = absurd w
  takes (msg.Ended s low mask) d w h = or-hellos s (take_ended (record { low = low; mask = mask })) d h (takes-ended (record { low = low; mask = mask }) d h)
  takes (msg.Restarted s e) d w h = or-hellos s (take_restarted e) d h (takes-restarted e d h)
  takes (msg.OldBoot asked greatest) d w h = choose (same_age asked d.clerk.age) (emit (out.OldBoot greatest) d) d (emits (out.OldBoot greatest) d tt h) h
  takes (msg.Hello i x) d w h = h
  takes (msg.Want s e x m n) d w h = h
  takes (msg.Back s e x n m) d w h = h
  takes (msg.Flush s e b ops) d w h = h
  takes (msg.Room s e got ask) d w h = h
  takes (msg.Claim s e l) d w h = h
  takes (msg.Bye s e) d w h = h

-- Whole steps.

begins : (makes : ℕ) (k : Clerk) → IsStocked makes k → Stocks makes (doing k)
begins makes k h = record { clerk = h; outs = tt }

both : (makes : ℕ) (d : Doing) → Stocks makes d → IsStocked makes d.clerk × Each HasRoomIn d.outs
both makes d h = (h.clerk, h.outs)

pub messages-keep : (makes : ℕ) (m : Msg) (k : Clerk) → ComesWell m k → IsStocked makes k → IsStocked makes (take m k).clerk × Each HasRoomIn (take m k).outs
messages-keep makes m k w h = both makes (take m k) (settles makes (taken m (doing k)) (takes makes m (doing k) w (begins makes k h)))

pub calls-keep : (makes : ℕ) (cl : Call) (k : Clerk) → k.waiting ≡ [] → k.asking ≡ None → IsStocked makes k → IsStocked (makes + one_if (creates cl)) (begin cl k).clerk × Each HasRoomIn (begin cl k).outs
calls-keep makes cl k none still h =
    let n : ℕ = makes + one_if (creates cl) in
    both n (begin cl k) (choose n (nat_le last_counter k.calls) (spend counter.CallNo (doing k)) (settle (doing (add_call cl k))) (record { clerk = more; outs = tt }) (settles n (doing (add_call cl k)) (record { clerk = called; outs = tt })))
  where
    more : IsStocked (makes + one_if (creates cl)) k
    more = record { one = h.one; waits = omega (arith, h.waits); ids = omega (arith, h.ids); few = h.few; asks = h.asks }

    now : makes_in (add_call cl k).waiting ≡ makes_in k.waiting + one_if (creates cl)
    now = omega (arith, makes-both k.waiting (record { no = k.calls + 1; call = cl; begun = Rattle.std.specs.Prelude.◌-◌ k.log.next 1 } ∷ []))

    one-waits : length (add_call cl k).waiting ≤ 1
    one-waits = omega (arith, length-append k.waiting (record { no = k.calls + 1; call = cl; begun = Rattle.std.specs.Prelude.◌-◌ k.log.next 1 } ∷ []), ap length none)

    called : IsStocked (makes + one_if (creates cl)) (add_call cl k)
    called = record { one = one-waits; waits = omega (arith, now, h.waits); ids = omega (arith, now, h.ids); few = h.few; asks = λ n e. absurd (none_some (sym still ∙ e)) }

pub pushes-keep : (makes n : ℕ) (k : Clerk) → IsStocked makes k → IsStocked makes (push n k).clerk × Each HasRoomIn (push n k).outs
pushes-keep makes n k h = both makes (push n k) (settles makes _ (choose makes (nat_le k.log.first n) (keep_push n (doing k)) (doing k) (keeps-push makes n (doing k) (begins makes k h)) (begins makes k h)))

pub starts-have : (c boot : ℕ) → IsStocked 0 (start c boot).clerk × Each HasRoomIn (start c boot).outs
starts-have c boot = both 0 (start c boot) (choose 0 (nat_lt last_counter boot) (spend counter.Boot (doing (new_clerk c boot))) (hello (doing (new_clerk c boot))) (record { clerk = new; outs = tt }) (hellos 0 (doing (new_clerk c boot)) (record { clerk = new; outs = tt })))
  where
    new : IsStocked 0 (new_clerk c boot)
    new = record { one = omega arith; waits = omega arith; ids = omega arith; few = omega arith; asks = λ n e. absurd (none_some e) }
