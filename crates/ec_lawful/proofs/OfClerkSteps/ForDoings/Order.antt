-- A clerk stays in order behind each of its functions.
use Rattle.std.proofs.Common.{◌≡◌, refl, ap, subst, ◌∙◌, ℕ, Bool, true, false, not, ◌&&◌, ◌+◌, T, List, [], ◌∷◌, ◌++◌, length}
use Rattle.std.specs.Prelude.{◌==◌, ◌^◌, Option, None, Some, is_some, is_none, nat_le, nat_lt, drop}
use Rattle.std.specs.List.{list_any}
use Rattle.ec_base.specs.Tables.{keys, or_else}
use Rattle.ec_base.specs.declared.counter.Counter.TheVariants as counter
use Rattle.ec_base.specs.declared.ids.Hold.{Hold}
use Rattle.ec_volume.specs.Update.{is_make, is_sound as is_sound_update}
use Rattle.ec_volume.specs.declared.update.Update.{Update}
use Rattle.ec_plain.specs.declared.call.Call.{Call}
use Rattle.ec_plain.specs.declared.call.Outcome.{Outcome}
use Rattle.ec_history.specs.History.{Each}
use Rattle.ec_history.specs.declared.entry.Answer.TheVariants as answer
use Rattle.ec_sessions.specs.declared.window.Window.{Window}
use Rattle.ec_wire.specs.Messages.{is_lowered_mode, is_sound}
use Rattle.ec_wire.specs.declared.msg.Msg.{Msg}
use Rattle.ec_wire.specs.declared.msg.Msg.TheVariants.{Opened, Grant, Recall, Kept, Ids, NoRoom, Ended, Restarted, OldBoot}
use Rattle.ec_cache.specs.Cache as cache
use Rattle.ec_cache.specs.declared.state.Held.{Held}
use Rattle.ec_log.specs.Log as log
use Rattle.ec_log.specs.declared.state.Asked.{Asked}
use Rattle.ec_log.specs.declared.state.Asked.TheVariants as asked
use Rattle.ec_log.specs.declared.state.Pick.{Pick}
use Rattle.ec_log.specs.declared.state.Pick.TheVariants as pick_of
use Rattle.ec_cache.specs.declared.resolve.verdict.Verdict.{Verdict}
use Rattle.ec_cache.specs.declared.resolve.verdict.Verdict.TheVariants.{Need, Lost, NeedIds, Done}
use Rattle.ec_cache.proofs.OfResolve.Verdicts.{ids-says}
use Rattle.ec_cache.specs.Cache.{images_held}
use Rattle.ec_protocol.specs.declared.clerk.Clerk.{Clerk}
use Rattle.ec_protocol.specs.declared.clerk.Recalled.{Recalled}
use Rattle.ec_protocol.specs.declared.clerk.Waiting.{Waiting}
use Rattle.ec_protocol.specs.declared.clerk.Out.TheVariants as out
use Rattle.ec_protocol.specs.Clerk.{Doing, Tried, Waits, Answered, add_ids, answer_recalls, answer_with, ask_anew, ask_for, ask_pushes, ask_room, await, awaited, claim, emit, enter_epoch, epoch, evict, evict_unpinned, first_id, give_back, has_session, hello, idless, is_need, is_owing, is_ready, is_session, is_settled, is_wanted, issue, keep_call, keep_push, keep_recall, less_id, lose, mark_recall, may_want, needs, on_objects, refuse_make, refuse_makes, resend_batches, resend_needs, resend_room, resend_want, same_age, send, send_backs, send_batch, send_outstanding, send_picked, send_room, send_want, settle, settle_outcome, spend, suits, take_ended, take_ids, take_no_room, take_recall, take_restarted, taken, try, try_pushes, try_recalls, try_verdict, verdict, want, wanted, with_cache, with_clerk, with_log, with_update}
use Rattle.ec_coherence.proofs.ForServer.Lists.{each-more}
use Rattle.ec_coherence.proofs.ForClerk.Settling.{Keeping, settle-keeps}
use Rattle.ec_coherence.proofs.ForClerk.Try.{OnTried}
use Rattle.ec_coherence.proofs.ForClerk.TriedList.{keeping}
use Rattle.ec_lawful.proofs.OfClerkSteps.ForDoings.Logs.{InOrder, end-order, issue-order, kept-order, pick-order}
use Rattle.ec_base.proofs.Bools.{left as and_first, holds-true as holds}
use Rattle.ec_coherence.proofs.ForClerk.KeyedSteps.{entering}

-- what is recalled, asked for and issued is in order
abbrev pub IsTrim : Clerk → Type 0
IsTrim k = Each (λ r. T (is_lowered_mode r.to)) k.recalls × (T (is_some k.asking) → k.ids ≡ []) × InOrder k.log

abbrev pub Trim : Doing → Type 0
Trim e = IsTrim e.clerk

-- where both ways are, so is the choice
choose : (z : Bool) (d e : Doing) → Trim d → Trim e → Trim (elim z as (λ y. Doing) [ true ↦ d | false ↦ e ])
choose true d e h i = h
choose false d e h i = i

-- Asking.

pub trim-ask : (a : Asked) (e : Doing) → Trim e → Trim (ask_for a e)
trim-ask a e h = go (log.pick a e.clerk.log) refl
  where
    go : (p : Pick) → log.pick a e.clerk.log ≡ p → Trim (send_picked p e)
    go (pick_of.Batch b ns) q =
        choose (log.batches_are_spent e.clerk.log) (spend counter.Batch e) (send_batch b (with_log (log.after_pick (pick_of.Batch b ns)) e)) h
        (h.0, h.1, subst (λ p. InOrder (log.after_pick p e.clerk.log)) q (pick-order e.clerk.log h.2 a))
    go (pick_of.Behind b) q = h
    go (pick_of.Window b) q = h
    go pick_of.Settled q = h

trim-want : (x : ℕ) (m : Hold) (e : Doing) → Trim e → Trim (want x m e)
trim-want x m e h = choose (may_want x m e.clerk && not (list_any (is_wanted (wanted x m e.clerk)) e.clerk.wanted)) (send_want x m e) e h h

pub trim-room : (e : Doing) → e.clerk.ids ≡ [] → Trim e → Trim (ask_room e)
trim-room e none h = choose (has_session e.clerk && is_none e.clerk.asking) (ask_anew e) e
    (choose (nat_le (2 ^ 62) e.clerk.asks) (spend counter.Ask e) (send_room (e.clerk.asks + 1) (with_clerk (λ k. record k { asking = Some (k.asks + 1); asks = k.asks + 1 }) e)) h (h.0, (λ t. none), h.2)) h

-- ids are needed where none is left
pub ids-are-out : (cl : Call) (k : Clerk) (xs : List ℕ) → verdict cl k ≡ NeedIds xs → k.ids ≡ []
ids-are-out cl k xs e = go k.ids (ids-says k.cache k.owed cl (first_id k.ids) xs e (images_held k.cache) (record { images = λ o t. refl; unmade = λ o t. refl }) (or_else 0 (first_id k.ids)) (λ x p. ap (or_else 0) p)).none
  where
    go : (ids : List ℕ) → first_id ids ≡ None → ids ≡ []
    go [] p = refl
    go (x ∷ ids) p = absurd (cc)

-- Tries.

trim-await : (p : Waiting) (o : Outcome) (a : Option Asked) (e : Doing) → Trim e → OnTried Trim (await p o a e)
trim-await p o None e h = h
trim-await p o (Some a) e h = go (is_owing p.begun (log.first a e.clerk.log))
  where
    go : (z : Bool) → OnTried Trim (elim z as (λ y. Tried) [ true ↦ Waits (ask_for a e) | false ↦ answer_with p (answer.Reply o.reply) None o.touched e ])
    go true = trim-ask a e h
    go false = h

none-less : (u : Update) (ids : List ℕ) → ids ≡ [] → less_id u ids ≡ []
none-less u ids p = ap (less_id u) p ∙ go (is_make u)
  where
    go : (z : Bool) → (elim z as (λ y. List ℕ) [ true ↦ drop 1 [] | false ↦ [] ]) ≡ []
    go true = refl
    go false = refl

trim-issue : (p : Waiting) (o : Outcome) (u : Update) (e : Doing) → T (is_sound_update u) → Trim e → OnTried Trim (issue p o u e)
trim-issue p o u e s h = go (log.ops_are_spent e.clerk.log)
  where
    go : (z : Bool) → OnTried Trim (elim z as (λ y. Tried) [ true ↦ Waits (spend counter.Op e) | false ↦ answer_with p (answer.Reply o.reply) (Some e.clerk.log.next) o.touched (with_clerk (with_update u) e) ])
    go true = h
    go false = (h.0, (λ t. none-less u e.clerk.ids (h.1 t)), issue-order e.clerk.log h.2 u s)

trim-outcome : (p : Waiting) (o : Outcome) (u : Option Update) (e : Doing) → Trim e → OnTried Trim (settle_outcome p o u e)
trim-outcome p o None e h = trim-await p o (awaited p.call o) e h
trim-outcome p o (Some u) e h = go (suits u e.clerk.cache) (log.is_full e.clerk.log) refl
  where
    go : (a b : Bool) → suits u e.clerk.cache ≡ a → OnTried Trim (elim a as (λ z. Tried) [ false ↦ Waits e | true ↦ elim b as (λ z. Tried) [ true ↦ Waits (ask_for asked.All e) | false ↦ issue p o u e ] ])
    go false b q = h
    go true true q = trim-ask asked.All e h
    go true false q = trim-issue p o u e (and_first (is_sound_update u) _ (holds (suits u e.clerk.cache) q)) h

trim-verdict : (p : Waiting) (v : Verdict) (e : Doing) → verdict p.call e.clerk ≡ v → Trim e → OnTried Trim (try_verdict p v e)
trim-verdict p (Need x m) e q h = trim-want x m e h
trim-verdict p (NeedIds xs) e q h = trim-room e (ids-are-out p.call e.clerk xs q) h
trim-verdict p (Lost ns xs) e q h = h
trim-verdict p (Done o) e q h = trim-outcome p o o.update e h

trim-try : (before : List Waiting) (p : Waiting) (ws : List Waiting) (e : Doing) → Trim e → e.clerk.waiting ≡ before ++ p ∷ ws → Keeping Trim before p ws (try p e)
trim-try before p ws e h q = keeping Trim (λ vs f i. i) before p ws e q (trim-verdict p (verdict p.call e.clerk) e refl h)

-- Recalls and pushes.

trim-recalls : (rs : List Recalled) (e : Doing) → Each (λ r. T (is_lowered_mode r.to)) rs → Trim e → Trim (try_recalls rs e)
trim-recalls [] e l h = h
trim-recalls (r ∷ rs) e l h = trim-recalls rs _ l.1 (choose (is_ready r e.clerk) (give_back r e) (keep_recall r (ask_for (asked.Object r.obj) e)) h (keep (ask_for (asked.Object r.obj) e) (trim-ask (asked.Object r.obj) e h)))
  where
    keep : (f : Doing) → Trim f → Trim (keep_recall r f)
    keep f i = (each-more (λ q. T (is_lowered_mode q.to)) f.clerk.recalls (r ∷ []) i.0 (l.0, tt), i.1, i.2)

pub trim-answer-recalls : (e : Doing) → Trim e → Trim (answer_recalls e)
trim-answer-recalls e h = trim-recalls e.clerk.recalls (record e { clerk = record (e.clerk) { recalls = [] } }) h.0 (tt, h.1, h.2)

trim-pushes : (ns : List ℕ) (e : Doing) → Trim e → Trim (try_pushes ns e)
trim-pushes [] e h = h
trim-pushes (n ∷ ns) e h = trim-pushes ns _ (choose (is_settled (asked.Op n) e.clerk) e (ask_for (asked.Op n) (keep_push n e)) h (trim-ask (asked.Op n) (keep_push n e) h))

pub trim-ask-pushes : (e : Doing) → Trim e → Trim (ask_pushes e)
trim-ask-pushes e h = trim-pushes e.clerk.pushes (record e { clerk = record (e.clerk) { pushes = [] } }) h

trim-backs : (es : List (ℕ × Held)) (e : Doing) → Trim e → Trim (send_backs es e)
trim-backs [] e h = h
trim-backs (p ∷ es) e h = trim-backs es (send (Rattle.ec_wire.specs.declared.msg.Msg.TheVariants.Back (Rattle.ec_protocol.specs.Clerk.session e) (epoch e) p.0 (p.1).number Rattle.ec_base.specs.declared.ids.Hold.TheVariants.Free) e) h

pub trim-evict : (e : Doing) → Trim e → Trim (evict e)
trim-evict e h = choose (nat_le (length e.clerk.cache.held) e.clerk.cache.capacity) e (evict_unpinned (on_objects e.clerk.log.undurable) e) h
    (trim-backs (cache.evicted (on_objects e.clerk.log.undurable) e.clerk.cache) (with_cache (cache.evict (on_objects e.clerk.log.undurable)) e) h)

pub trim-settle : (e : Doing) → Trim e → Trim (settle e)
trim-settle = settle-keeps Trim trim-try trim-answer-recalls trim-ask-pushes trim-evict

-- What is outstanding.

trim-needs : (sent ps : List (ℕ × Hold)) (e : Doing) → Trim e → Trim (resend_needs sent ps e)
trim-needs sent [] e h = h
trim-needs sent (p ∷ ps) e h = trim-needs (p ∷ sent) ps _ (choose (may_want p.0 p.1 e.clerk && not (list_any (is_need p.0 p.1) sent)) (send_want p.0 p.1 e) e h h)

trim-room-again : (o : Option ℕ) (e : Doing) → Trim e → Trim (resend_room o e)
trim-room-again None e h = h
trim-room-again (Some n) e h = h

trim-batches : (bs : List ℕ) (e : Doing) → Trim e → Trim (resend_batches bs e)
trim-batches [] e h = h
trim-batches (b ∷ bs) e h = trim-batches bs (send_batch b e) h

pub trim-outstanding : (e : Doing) → Trim e → Trim (send_outstanding e)
trim-outstanding e h =
    let f = resend_needs [] (needs e.clerk.waiting e.clerk) e in
    trim-batches (keys f.clerk.log.batches) (resend_room f.clerk.asking f) (trim-room-again f.clerk.asking f (trim-needs [] (needs e.clerk.waiting e.clerk) e h))

-- Messages.

trim-refuse : (live reserved : ℕ) (ws : List Waiting) (e : Doing) → Trim e → Trim (refuse_makes live reserved ws e)
trim-refuse live reserved [] e h = h
trim-refuse live reserved (p ∷ ws) e h = trim-refuse live reserved ws _ (go (idless (verdict p.call e.clerk)))
  where
    go : (o : Option (List ℕ)) → Trim (elim o as (λ y. Doing) [ Some xs ↦ refuse_make live reserved p.no xs e | None ↦ keep_call p e ])
    go (Some xs) = h
    go None = h

trim-restarted : (a : ℕ) (e : Doing) → Trim e → Trim (take_restarted a e)
trim-restarted a e h = choose (nat_lt a (epoch e)) e (send_outstanding (claim (entering a e))) h
    (trim-outstanding (claim (entering a e)) (choose (nat_lt (epoch e) a) (with_clerk (enter_epoch a) e) e (tt, h.1, h.2) h))

trim-ended : (v : Window) (e : Doing) → Trim e → Trim (take_ended v e)
trim-ended v e h = choose (nat_le 4294967295 e.clerk.age.round) (spend counter.Round e) (hello (emit (out.Told (keys (log.lost v e.clerk.log))) (with_clerk (lose (log.lost v e.clerk.log)) e))) h (tt, (λ t. refl), end-order e.clerk.log)

pub trim-taken : (m : Msg) → T (is_sound m) → (e : Doing) → Trim e → Trim (taken m e)
trim-taken (Opened age t a) s e h = choose (not (has_session e.clerk) && same_age age e.clerk.age) (send (Rattle.ec_wire.specs.declared.msg.Msg.TheVariants.Claim t a []) (with_clerk (λ k. record k { session = Some t; epoch = a }) e)) e h h
trim-taken (Grant t a x n m i) s e h = choose (is_session t e.clerk.session && (a == epoch e)) (with_cache (cache.take x m n i) e) e h h
trim-taken (Recall t a x n to) s e h = choose (is_session t e.clerk.session && (a == epoch e)) (take_recall x n to e) e
    (choose (nat_lt n (cache.last x e.clerk.cache)) e (keep_recall (record { obj = x; number = n; to = to }) (with_cache (mark_recall x to) e)) h
    (each-more (λ q. T (is_lowered_mode q.to)) e.clerk.recalls (record { obj = x; number = n; to = to } ∷ []) h.0 (s, tt), h.1, h.2)) h
trim-taken (Kept t a b) s e h = choose (is_session t e.clerk.session) (with_log (log.kept b) e) e (h.0, h.1, kept-order e.clerk.log h.2 b) h
trim-taken (Ids t a got n first) s e h = choose (is_session t e.clerk.session && (a == epoch e)) (take_ids got n first e) e
    (choose (got == e.clerk.got) (elim (nat_le 4294967295 got) as (λ y. Doing) [ true ↦ spend counter.Id e | false ↦ with_clerk (add_ids n first) e ]) e (choose (nat_le 4294967295 got) (spend counter.Id e) (with_clerk (add_ids n first) e) h (h.0, (λ t. absurd t), h.2)) h) h
trim-taken (NoRoom t a ask live reserved) s e h = choose (is_session ask e.clerk.asking) (refuse_makes live reserved e.clerk.waiting (with_clerk (λ k. record k { asking = None; waiting = [] }) e)) e
    (trim-refuse live reserved e.clerk.waiting (with_clerk (λ k. record k { asking = None; waiting = [] }) e) (h.0, (λ t. absurd t), h.2)) h
trim-taken (Ended t l i) s e h = choose (has_session e.clerk) (elim (is_session t e.clerk.session) as (λ y. Doing) [ true ↦ take_ended (record { low = l; mask = i }) e | false ↦ e ]) (hello e)
    (choose (is_session t e.clerk.session) (take_ended (record { low = l; mask = i }) e) e (trim-ended (record { low = l; mask = i }) e h) h) h
trim-taken (Restarted t a) s e h = choose (has_session e.clerk) (elim (is_session t e.clerk.session) as (λ y. Doing) [ true ↦ take_restarted a e | false ↦ e ]) (hello e) (choose (is_session t e.clerk.session) (take_restarted a e) e (trim-restarted a e h) h) h
trim-taken (OldBoot asked greatest) s e h = choose (same_age asked e.clerk.age) (emit (out.OldBoot greatest) e) e h h
trim-taken _ s e h = h
