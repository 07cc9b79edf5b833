-- Each step of a clerk leaves its cache with each object once.
use Rattle.std.proofs.Common.{◌≡◌, subst, ℕ, Bool, true, false, not, ◌&&◌, ◌+◌, List, [], ◌∷◌, ◌++◌}
use Rattle.std.specs.Prelude.{◌==◌, ◌^◌, Option, None, Some, nat_le, nat_lt, is_none, length}
use Rattle.ec_base.specs.Tables.{at, keys}
use Rattle.ec_volume.specs.Update.{operands}
use Rattle.ec_cache.specs.Cache as cache
use Rattle.ec_cache.specs.declared.state.Held.{Held}
use Rattle.ec_protocol.specs.declared.clerk.Clerk.{Clerk}
use Rattle.ec_protocol.specs.declared.clerk.Recalled.{Recalled}
use Rattle.ec_protocol.specs.declared.clerk.Out.TheVariants as out
use Rattle.ec_sessions.specs.declared.window.Window.{Window}
use Rattle.ec_wire.specs.declared.msg.Msg.{Msg}
use Rattle.ec_wire.specs.declared.msg.Msg.TheVariants.{Back, Claim, Opened, Grant, Recall, Kept, Ids, NoRoom, Ended, Restarted, OldBoot}
use Rattle.std.specs.List.{list_any}
use Rattle.ec_base.specs.declared.counter.Counter.TheVariants as counter
use Rattle.ec_base.specs.declared.ids.Hold.{Hold}
use Rattle.ec_volume.specs.declared.update.Update.{Update}
use Rattle.ec_plain.specs.declared.call.Outcome.{Outcome}
use Rattle.ec_history.specs.declared.entry.Answer.TheVariants as answer
use Rattle.ec_log.specs.Log as log
use Rattle.ec_log.specs.declared.state.Asked.{Asked}
use Rattle.ec_log.specs.declared.state.Asked.TheVariants.{All}
use Rattle.ec_log.specs.declared.state.Pick.{Pick}
use Rattle.ec_log.specs.declared.state.Pick.TheVariants as pick_of
use Rattle.ec_cache.specs.declared.resolve.verdict.Verdict.{Verdict}
use Rattle.ec_cache.specs.declared.resolve.verdict.Verdict.TheVariants.{Need, Lost, NeedIds, Done}
use Rattle.ec_protocol.specs.declared.clerk.Waiting.{Waiting}
use Rattle.ec_protocol.specs.Clerk.{Doing, spend, with_clerk, with_log, with_update, send_batch, send_picked, ask_for, may_want, wanted, is_wanted, send_want, want, has_session, send_room, ask_anew, ask_room, Tried, Waits, Answered, answer_with, awaited, await, is_owing, suits, issue, issue_if_room, settle_outcome, try_verdict, try, verdict, left_of, lower_held, give_back, is_ready, keep_recall, try_recalls, answer_recalls, is_settled, keep_push, try_pushes, ask_pushes, send_backs, evict_unpinned, evict, on_objects, settle, is_need, resend_want, resend_needs, needs, resend_room, resend_batches, send_outstanding, claim, is_session, epoch, in_session, or_hello, hello, same_age, take_opened, mark_recall, take_recall, add_ids, take_ids, idless, refuse_make, keep_call, refuse_makes, take_no_room, enter_epoch, take_restarted, lose, take_ended, take_old_boot, taken, take, begin, add_call, push, resend, bye, flush, doing, emit, send, with_cache}
use Rattle.ec_coherence.specs.Caches.{IsKeyed, CachesAgree}
use Rattle.ec_coherence.specs.Steps.{doing_in}
use Rattle.ec_coherence.specs.System.{System, Ghost}
use Rattle.ec_coherence.proofs.ForServer.Tables.{same_some}
use Rattle.ec_coherence.proofs.ForClerk.Keyed.{keyed-take, keyed-marked, keyed-evicted, keyed-new-epoch, keyed-lowered, keyed-all-used, keyed-all-changed, keyed-each}
use Rattle.ec_coherence.proofs.ForClerk.Settling.{Keeping, settle-keeps}
use Rattle.ec_coherence.proofs.ForClerk.Try.{OnTried}
use Rattle.ec_coherence.proofs.ForClerk.TriedList.{keeping}

-- its cache has each object once
abbrev pub Keyed : Doing → Type 0
Keyed e = IsKeyed e.clerk.cache

keyed-picked : (p : Pick) (e : Doing) → Keyed e → Keyed (send_picked p e)
keyed-picked (pick_of.Batch b ns) e h = go (log.batches_are_spent e.clerk.log)
  where
    go : (z : Bool) → Keyed (elim z as (λ y. Doing) [ true ↦ spend counter.Batch e | false ↦ send_batch b (with_log (log.after_pick (pick_of.Batch b ns)) e) ])
    go true = h
    go false = h
keyed-picked _ e h = h

keyed-ask : (a : Asked) (e : Doing) → Keyed e → Keyed (ask_for a e)
keyed-ask a e h = keyed-picked (log.pick a e.clerk.log) e h

keyed-want : (x : ℕ) (m : Hold) (e : Doing) → Keyed e → Keyed (want x m e)
keyed-want x m e h = go (may_want x m e.clerk && not (list_any (is_wanted (wanted x m e.clerk)) e.clerk.wanted))
  where
    go : (z : Bool) → Keyed (elim z as (λ y. Doing) [ true ↦ send_want x m e | false ↦ e ])
    go true = h
    go false = h

keyed-room : (e : Doing) → Keyed e → Keyed (ask_room e)
keyed-room e h = go (has_session e.clerk && is_none e.clerk.asking)
  where
    anew : (z : Bool) → Keyed (elim z as (λ y. Doing) [
      | true ↦ spend counter.Ask e
      | false ↦ send_room (e.clerk.asks + 1) (with_clerk (λ k. record k { asking = Some (k.asks + 1); asks = k.asks + 1 }) e)
    ])
    anew true = h
    anew false = h

    go : (z : Bool) → Keyed (elim z as (λ y. Doing) [ true ↦ ask_anew e | false ↦ e ])
    go true = anew (nat_le (2 ^ 62) e.clerk.asks)
    go false = h

keyed-await : (p : Waiting) (o : Outcome) (a : Option Asked) (e : Doing) → Keyed e → OnTried Keyed (await p o a e)
keyed-await p o None e h = keyed-all-used o.touched e.clerk.cache h
keyed-await p o (Some a) e h = go (is_owing p.begun (log.first a e.clerk.log))
  where
    go : (z : Bool) → OnTried Keyed (elim z as (λ y. Tried) [ true ↦ Waits (ask_for a e) | false ↦ answer_with p (answer.Reply o.reply) None o.touched e ])
    go true = keyed-ask a e h
    go false = keyed-all-used o.touched e.clerk.cache h

keyed-issue : (p : Waiting) (o : Outcome) (u : Update) (e : Doing) → Keyed e → OnTried Keyed (issue p o u e)
keyed-issue p o u e h = go (log.ops_are_spent e.clerk.log)
  where
    go : (z : Bool) → OnTried Keyed (elim z as (λ y. Tried) [ true ↦ Waits (spend counter.Op e) | false ↦ answer_with p (answer.Reply o.reply) (Some e.clerk.log.next) o.touched (with_clerk (with_update u) e) ])
    go true = h
    go false = keyed-all-used o.touched (cache.change u (operands u) e.clerk.cache) (keyed-all-changed u (operands u) e.clerk.cache h)

keyed-outcome : (p : Waiting) (o : Outcome) (u : Option Update) (e : Doing) → Keyed e → OnTried Keyed (settle_outcome p o u e)
keyed-outcome p o None e h = keyed-await p o (awaited p.call o) e h
keyed-outcome p o (Some u) e h = go (suits u e.clerk.cache) (log.is_full e.clerk.log)
  where
    go : (a b : Bool) → OnTried Keyed (elim a as (λ z. Tried) [ false ↦ Waits e | true ↦ elim b as (λ z. Tried) [ true ↦ Waits (ask_for All e) | false ↦ issue p o u e ] ])
    go false b = h
    go true true = keyed-ask All e h
    go true false = keyed-issue p o u e h

pub keyed-verdict : (p : Waiting) (v : Verdict) (e : Doing) → Keyed e → OnTried Keyed (try_verdict p v e)
keyed-verdict p (Need x m) e h = keyed-want x m e h
keyed-verdict p (NeedIds xs) e h = keyed-room e h
keyed-verdict p (Lost ns xs) e h = keyed-all-used xs e.clerk.cache h
keyed-verdict p (Done o) e h = keyed-outcome p o o.update e h

-- The end of a step.

pub keyed-try : (before : List Waiting) (p : Waiting) (ws : List Waiting) (e : Doing) → Keyed e → e.clerk.waiting ≡ before ++ p ∷ ws → Keeping Keyed before p ws (try p e)
keyed-try before p ws e h q = keeping Keyed (λ vs f i. i) before p ws e q (keyed-verdict p (verdict p.call e.clerk) e h)

pub keyed-recalls : (rs : List Recalled) (e : Doing) → Keyed e → Keyed (try_recalls rs e)
keyed-recalls [] e h = h
keyed-recalls (r ∷ rs) e h = keyed-recalls rs _ (go (is_ready r e.clerk))
  where
    go : (z : Bool) → Keyed (elim z as (λ y. Doing) [ true ↦ give_back r e | false ↦ keep_recall r (ask_for (Rattle.ec_log.specs.declared.state.Asked.TheVariants.Object r.obj) e) ])
    go true = keyed-lowered e.clerk.cache h r.obj (left_of r (at r.obj e.clerk.cache.held)) (at r.obj e.clerk.cache.held)
    go false = keyed-ask (Rattle.ec_log.specs.declared.state.Asked.TheVariants.Object r.obj) e h

pub keyed-pushes : (ns : List ℕ) (e : Doing) → Keyed e → Keyed (try_pushes ns e)
keyed-pushes [] e h = h
keyed-pushes (n ∷ ns) e h = keyed-pushes ns _ (go (is_settled (Rattle.ec_log.specs.declared.state.Asked.TheVariants.Op n) e.clerk))
  where
    go : (z : Bool) → Keyed (elim z as (λ y. Doing) [ true ↦ e | false ↦ ask_for (Rattle.ec_log.specs.declared.state.Asked.TheVariants.Op n) (keep_push n e) ])
    go true = h
    go false = keyed-ask (Rattle.ec_log.specs.declared.state.Asked.TheVariants.Op n) (keep_push n e) h

keyed-backs : (es : List (ℕ × Held)) (e : Doing) → Keyed e → Keyed (send_backs es e)
keyed-backs [] e h = h
keyed-backs (p ∷ es) e h = keyed-backs es (send (Back (Rattle.ec_protocol.specs.Clerk.session e) (epoch e) p.0 (p.1).number Rattle.ec_base.specs.declared.ids.Hold.TheVariants.Free) e) h

pub keyed-evict : (e : Doing) → Keyed e → Keyed (evict e)
keyed-evict e h = go (nat_le (length e.clerk.cache.held) e.clerk.cache.capacity)
  where
    go : (z : Bool) → Keyed (elim z as (λ y. Doing) [ true ↦ e | false ↦ evict_unpinned (on_objects e.clerk.log.undurable) e ])
    go true = h
    go false = keyed-backs (cache.evicted (on_objects e.clerk.log.undurable) e.clerk.cache) (with_cache (cache.evict (on_objects e.clerk.log.undurable)) e) (keyed-evicted e.clerk.cache h (on_objects e.clerk.log.undurable))

pub keyed-settle : (e : Doing) → Keyed e → Keyed (settle e)
keyed-settle = settle-keeps Keyed keyed-try (λ e h. keyed-recalls e.clerk.recalls (record e { clerk = record (e.clerk) { recalls = [] } }) h) (λ e h. keyed-pushes e.clerk.pushes (record e { clerk = record (e.clerk) { pushes = [] } }) h) keyed-evict

-- What is outstanding.

keyed-needs : (sent ps : List (ℕ × Hold)) (e : Doing) → Keyed e → Keyed (resend_needs sent ps e)
keyed-needs sent [] e h = h
keyed-needs sent (p ∷ ps) e h = keyed-needs (p ∷ sent) ps _ (go (may_want p.0 p.1 e.clerk && not (list_any (is_need p.0 p.1) sent)))
  where
    go : (z : Bool) → Keyed (elim z as (λ y. Doing) [ true ↦ send_want p.0 p.1 e | false ↦ e ])
    go true = h
    go false = h

keyed-room-again : (o : Option ℕ) (e : Doing) → Keyed e → Keyed (resend_room o e)
keyed-room-again None e h = h
keyed-room-again (Some n) e h = h

keyed-batches : (bs : List ℕ) (e : Doing) → Keyed e → Keyed (resend_batches bs e)
keyed-batches [] e h = h
keyed-batches (b ∷ bs) e h = keyed-batches bs (send_batch b e) h

pub keyed-outstanding : (e : Doing) → Keyed e → Keyed (send_outstanding e)
keyed-outstanding e h =
    let f = resend_needs [] (needs e.clerk.waiting e.clerk) e in
    keyed-batches (keys f.clerk.log.batches) (resend_room f.clerk.asking f) (keyed-room-again f.clerk.asking f (keyed-needs [] (needs e.clerk.waiting e.clerk) e h))

-- Messages.

keyed-refuse : (live reserved : ℕ) (ws : List Waiting) (e : Doing) → Keyed e → Keyed (refuse_makes live reserved ws e)
keyed-refuse live reserved [] e h = h
keyed-refuse live reserved (p ∷ ws) e h = keyed-refuse live reserved ws _ (go (idless (verdict p.call e.clerk)))
  where
    go : (o : Option (List ℕ)) → Keyed (elim o as (λ y. Doing) [ Some xs ↦ refuse_make live reserved p.no xs e | None ↦ keep_call p e ])
    go (Some xs) = keyed-all-used xs e.clerk.cache h
    go None = h

-- where both ways are kept, so is the choice
choose : (z : Bool) (d e : Doing) → Keyed d → Keyed e → Keyed (elim z as (λ y. Doing) [ true ↦ d | false ↦ e ])
choose true d e h i = h
choose false d e h i = i

abbrev pub entering : ℕ → Doing → Doing
entering a e = elim (nat_lt (epoch e) a) as (λ y. Doing) [ true ↦ with_clerk (enter_epoch a) e | false ↦ e ]

keyed-restarted : (a : ℕ) (e : Doing) → Keyed e → Keyed (take_restarted a e)
keyed-restarted a e h = choose (nat_lt a (epoch e)) e (send_outstanding (claim (entering a e))) h (keyed-outstanding (claim (entering a e)) (choose (nat_lt (epoch e) a) (with_clerk (enter_epoch a) e) e (keyed-new-epoch e.clerk.cache h) h))

keyed-ended : (v : Window) (e : Doing) → Keyed e → Keyed (take_ended v e)
keyed-ended v e h = go (nat_le 4294967295 e.clerk.age.round)
  where
    go : (z : Bool) → Keyed (elim z as (λ y. Doing) [
      | true ↦ spend counter.Round e
      | false ↦ hello (emit (out.Told (keys (log.lost v e.clerk.log))) (with_clerk (lose (log.lost v e.clerk.log)) e))
    ])
    go true = h
    go false = tt

pub keyed-taken : (m : Msg) (e : Doing) → Keyed e → Keyed (taken m e)
keyed-taken (Opened age t a) e h = choose (not (has_session e.clerk) && same_age age e.clerk.age) (send (Claim t a []) (with_clerk (λ k. record k { session = Some t; epoch = a }) e)) e h h
keyed-taken (Grant t a x n m i) e h = choose (is_session t e.clerk.session && (a == epoch e)) (with_cache (cache.take x m n i) e) e (keyed-take e.clerk.cache h x m n i) h
keyed-taken (Recall t a x n to) e h = choose (is_session t e.clerk.session && (a == epoch e)) (take_recall x n to e) e (choose (nat_lt n (cache.last x e.clerk.cache)) e (keep_recall (record { obj = x; number = n; to = to }) (with_cache (mark_recall x to) e)) h (keyed-marked e.clerk.cache h x to)) h
keyed-taken (Kept t a b) e h = choose (is_session t e.clerk.session) (with_log (log.kept b) e) e h h
keyed-taken (Ids t a got n first) e h = choose (is_session t e.clerk.session && (a == epoch e)) (take_ids got n first e) e
    (choose (got == e.clerk.got) (elim (nat_le 4294967295 got) as (λ y. Doing) [ true ↦ spend counter.Id e | false ↦ with_clerk (add_ids n first) e ]) e (choose (nat_le 4294967295 got) (spend counter.Id e) (with_clerk (add_ids n first) e) h (keyed-each n (Rattle.ec_sessions.specs.Slots.run first 16) e.clerk.cache h)) h) h
keyed-taken (NoRoom t a ask live reserved) e h = choose (is_session ask e.clerk.asking) (refuse_makes live reserved e.clerk.waiting (with_clerk (λ k. record k { asking = None; waiting = [] }) e)) e (keyed-refuse live reserved e.clerk.waiting (with_clerk (λ k. record k { asking = None; waiting = [] }) e) h) h
keyed-taken (Ended t l i) e h = choose (has_session e.clerk) (elim (is_session t e.clerk.session) as (λ y. Doing) [ true ↦ take_ended (record { low = l; mask = i }) e | false ↦ e ]) (hello e)
    (choose (is_session t e.clerk.session) (take_ended (record { low = l; mask = i }) e) e (keyed-ended (record { low = l; mask = i }) e h) h) h
keyed-taken (Restarted t a) e h = choose (has_session e.clerk) (elim (is_session t e.clerk.session) as (λ y. Doing) [ true ↦ take_restarted a e | false ↦ e ]) (hello e) (choose (is_session t e.clerk.session) (take_restarted a e) e (keyed-restarted a e h) h) h
keyed-taken (OldBoot asked greatest) e h = choose (same_age asked e.clerk.age) (emit (out.OldBoot greatest) e) e h h
keyed-taken _ e h = h

-- The steps.

pub keyed-take-step : (m : Msg) (k : Clerk) → IsKeyed k.cache → Keyed (take m k)
keyed-take-step m k h = keyed-settle (taken m (doing k)) (keyed-taken m (doing k) h)

pub keyed-resend : (k : Clerk) → IsKeyed k.cache → Keyed (resend k)
keyed-resend k h = choose (has_session k) (send_outstanding (claim (doing k))) (hello (doing k)) (keyed-outstanding (claim (doing k)) h) h

pub keyed-flush : (a : Asked) (k : Clerk) → IsKeyed k.cache → Keyed (flush a k)
keyed-flush a k h = keyed-ask a (doing k) h

pub keyed-push : (n : ℕ) (k : Clerk) → IsKeyed k.cache → Keyed (push n k)
keyed-push n k h = keyed-settle (elim (nat_le k.log.first n) as (λ y. Doing) [ true ↦ keep_push n (doing k) | false ↦ doing k ]) (choose (nat_le k.log.first n) (keep_push n (doing k)) (doing k) h h)

pub keyed-begin : (cl : Rattle.ec_plain.specs.declared.call.Call.Call) (k : Clerk) → IsKeyed k.cache → Keyed (begin cl k)
keyed-begin cl k h = choose (nat_le (2 ^ 62) k.calls) (spend counter.CallNo (doing k)) (settle (doing (add_call cl k))) h (keyed-settle (doing (add_call cl k)) h)

-- On the whole system: all other starts stay.
pub caches-step : (g : System) (c b : ℕ) (e : Doing) (γ : Ghost) → CachesAgree g → Keyed e → CachesAgree (doing_in c b e γ g)
caches-step g c b e γ agree h = record { keyed = λ d a k. go d a k ((d == c) && (a == b)) }
  where
    go : (d a : ℕ) (k : Clerk) (z : Bool) → (elim z as (λ y. Option Clerk) [ true ↦ Some e.clerk | false ↦ g.clerks d a ]) ≡ Some k → IsKeyed k.cache
    go d a k true p = subst (λ y. IsKeyed y.cache) (same_some p) h
    go d a k false p = agree.keyed d a k p
