-- A clerk never says goodbye in the steps of a run.
use Rattle.std.proofs.Common.{◌+◌, ℕ, suc, zero, Bool, true, false, not, ◌==◌, ◌&&◌, List, [], ◌∷◌, ◌++◌, Option, Some, None}
use Rattle.std.specs.Prelude.{is_none, length, nat_le, nat_lt, ⊤}
use Rattle.std.specs.List.{list_any}
use Rattle.ec_base.specs.Limits.{last_counter}
use Rattle.ec_base.specs.Tables.{keys}
use Rattle.ec_base.specs.declared.counter.Counter.TheVariants as counter
use Rattle.ec_base.specs.declared.ids.Hold.{Hold}
use Rattle.ec_base.specs.declared.ids.Hold.TheVariants.{Free}
use Rattle.ec_volume.specs.declared.update.Update.{Update}
use Rattle.ec_plain.specs.declared.call.Call.{Call}
use Rattle.ec_plain.specs.declared.call.Outcome.{Outcome}
use Rattle.ec_history.specs.History.{Each}
use Rattle.ec_history.specs.declared.entry.Answer.{Answer}
use Rattle.ec_history.specs.declared.entry.Answer.TheVariants as answer
use Rattle.ec_cache.specs.Cache as cache
use Rattle.ec_cache.specs.declared.state.Held.{Held}
use Rattle.ec_sessions.specs.Limits.{last_grants, last_round}
use Rattle.ec_sessions.specs.declared.window.Window.{Window}
use Rattle.ec_wire.specs.declared.msg.Msg.{Msg}
use Rattle.ec_wire.specs.declared.msg.Msg.TheVariants.{Back, Claim, Grant, Ids, Kept, NoRoom, OldBoot, Opened, Ended, Recall, Restarted}
use Rattle.ec_log.specs.Log as log
use Rattle.ec_log.specs.declared.state.Asked.{Asked}
use Rattle.ec_log.specs.declared.state.Asked.TheVariants.{All, Object, Op}
use Rattle.ec_log.specs.declared.state.Pick.{Pick}
use Rattle.ec_log.specs.declared.state.Pick.TheVariants as pick_of
use Rattle.ec_cache.specs.OfReport.Report.{clear}
use Rattle.ec_cache.specs.declared.resolve.verdict.Verdict.{Verdict}
use Rattle.ec_cache.specs.declared.resolve.verdict.Verdict.TheVariants.{Need, Lost, NeedIds, Done}
use Rattle.ec_protocol.specs.Clerk.{Doing, Tried, Waits, Answered, add_call, add_ids, answer_recalls, answer_with, ask_for, ask_pushes, ask_room, await, awaited, begin, claim, doing, emit, enter_epoch, epoch, evict, evict_unpinned, give_back, has_session, hello, idless, in_session, is_need, is_owing, is_ready, is_session, is_settled, is_wanted, issue_if_room, keep_call, keep_push, keep_recall, lose, mark_recall, may_want, needs, new_clerk, on_objects, or_hello, push, refuse_make, refuse_makes, resend, resend_batches, resend_needs, resend_room, resend_want, same_age, send, send_backs, send_batch, send_outstanding, send_picked, send_room, send_want, session, settle, settle_outcome, spend, start, suits, take, take_ended, take_ids, take_no_room, take_recall, take_restarted, taken, try, try_all, try_each, try_pushes, try_recalls, try_rounds, try_verdict, verdict, want, wanted, with_cache, with_clerk, with_log, with_update}
use Rattle.ec_protocol.specs.declared.clerk.Clerk.{Clerk}
use Rattle.ec_protocol.specs.declared.clerk.Out.{Out}
use Rattle.ec_protocol.specs.declared.clerk.Out.TheVariants as out
use Rattle.ec_protocol.specs.declared.clerk.Recalled.{Recalled}
use Rattle.ec_protocol.specs.declared.clerk.Waiting.{Waiting}
use Rattle.ec_coherence.specs.Steps.{sends}
use Rattle.ec_coherence.proofs.ForServer.Lists.{each-more}
use Rattle.ec_lawful.specs.Asked.{IsNoBye}

-- it says no goodbye
abbrev pub IsOwn : Out → Type 0
IsOwn (out.Send m) = IsNoBye m
IsOwn _ = ⊤

abbrev pub Own : Doing → Type 0
Own d = Each IsOwn d.outs

says : (o : Out) → IsOwn o → (d : Doing) → Own d → Own (emit o d)
says o i d h = each-more IsOwn d.outs (o ∷ []) h (i, tt)

asks : (a : Asked) (d : Doing) → Own d → Own (ask_for a d)
asks a d h = by-pick (log.pick a d.clerk.log)
  where
    by-pick : (p : Pick) → Own (send_picked p d)
    by-pick (pick_of.Batch n ns) = go (log.batches_are_spent d.clerk.log)
      where
        go : (z : Bool) → Own (elim z as (λ y. Doing) [ true ↦ spend counter.Batch d | false ↦ send_batch n (with_log (log.after_pick (pick_of.Batch n ns)) d) ])
        go true = h
        go false = says (out.Send _) tt (with_log (log.after_pick (pick_of.Batch n ns)) d) h
    by-pick _ = h

gives : (r : Recalled) (d : Doing) → Own d → Own (give_back r d)
gives r d h = each-more IsOwn d.outs _ h (tt, tt)

each-recall : (rs : List Recalled) (d : Doing) → Own d → Own (try_recalls rs d)
each-recall [] d h = h
each-recall (r ∷ rs) d h = each-recall rs _ (go (is_ready r d.clerk))
  where
    go : (z : Bool) → Own (elim z as (λ y. Doing) [ true ↦ give_back r d | false ↦ keep_recall r (ask_for (Object r.obj) d) ])
    go true = gives r d h
    go false = asks (Object r.obj) d h

each-push : (ns : List ℕ) (d : Doing) → Own d → Own (try_pushes ns d)
each-push [] d h = h
each-push (n ∷ ns) d h = each-push ns _ (go (is_settled (Op n) d.clerk))
  where
    go : (z : Bool) → Own (elim z as (λ y. Doing) [ true ↦ d | false ↦ ask_for (Op n) (keep_push n d) ])
    go true = h
    go false = asks (Op n) (keep_push n d) h

sends-want : (x : ℕ) (m : Hold) (d : Doing) → Own d → Own (send_want x m d)
sends-want x m d h = each-more IsOwn d.outs _ h (tt, tt)

wants : (x : ℕ) (m : Hold) (d : Doing) → Own d → Own (want x m d)
wants x m d h = go (may_want x m d.clerk && not (list_any (is_wanted (wanted x m d.clerk)) d.clerk.wanted))
  where
    go : (z : Bool) → Own (elim z as (λ y. Doing) [ true ↦ send_want x m d | false ↦ d ])
    go true = sends-want x m d h
    go false = h

wants-again : (x : ℕ) (m : Hold) (sent : List (ℕ × Hold)) (d : Doing) → Own d → Own (resend_want x m sent d)
wants-again x m sent d h = go (may_want x m d.clerk && not (list_any (is_need x m) sent))
  where
    go : (z : Bool) → Own (elim z as (λ y. Doing) [ true ↦ send_want x m d | false ↦ d ])
    go true = sends-want x m d h
    go false = h

rooms : (d : Doing) → Own d → Own (ask_room d)
rooms d h = go (has_session d.clerk && is_none d.clerk.asking) (nat_le last_counter d.clerk.asks)
  where
    go : (z y : Bool) → Own (elim z as (λ o. Doing) [ true ↦ elim y as (λ o. Doing) [ true ↦ spend counter.Ask d | false ↦ send_room (d.clerk.asks + 1) (with_clerk (λ k. record k { asking = Some (k.asks + 1); asks = k.asks + 1 }) d) ] | false ↦ d ])
    go false y = h
    go true true = h
    go true false = each-more IsOwn d.outs _ h (tt, tt)

-- Tries.

abbrev OwnTried : Tried → Type 0
OwnTried (Waits d) = Own d
OwnTried (Answered d) = Own d

answers : (w : Waiting) (a : Answer) (op : Option ℕ) (xs : List ℕ) (d : Doing) → Own d → OwnTried (answer_with w a op xs d)
answers w a op xs d h = each-more IsOwn d.outs _ h (tt, tt)

awaits : (w : Waiting) (o : Outcome) (a : Option Asked) (d : Doing) → Own d → OwnTried (await w o a d)
awaits w o None d h = answers w (answer.Reply o.reply) None o.touched d h
awaits w o (Some a) d h = go (is_owing w.begun (log.first a d.clerk.log))
  where
    go : (z : Bool) → OwnTried (elim z as (λ y. Tried) [ true ↦ Waits (ask_for a d) | false ↦ answer_with w (answer.Reply o.reply) None o.touched d ])
    go true = asks a d h
    go false = answers w (answer.Reply o.reply) None o.touched d h

issues : (w : Waiting) (o : Outcome) (u : Update) (d : Doing) → Own d → OwnTried (issue_if_room w o u d)
issues w o u d h = go (suits u d.clerk.cache) (log.is_full d.clerk.log) (log.ops_are_spent d.clerk.log)
  where
    go : (x y z : Bool) → OwnTried (elim x as (λ q. Tried) [
      | false ↦ Waits d
      | true ↦ elim y as (λ q. Tried) [
        | true ↦ Waits (ask_for All d)
        | false ↦ elim z as (λ q. Tried) [
          | true ↦ Waits (spend counter.Op d)
          | false ↦ answer_with w (answer.Reply o.reply) (Some d.clerk.log.next) o.touched (with_clerk (with_update u) d)
        ]
      ]
    ])
    go false y z = h
    go true true z = asks All d h
    go true false true = h
    go true false false = answers w (answer.Reply o.reply) (Some d.clerk.log.next) o.touched (with_clerk (with_update u) d) h

settles : (w : Waiting) (o : Outcome) (u : Option Update) (d : Doing) → Own d → OwnTried (settle_outcome w o u d)
settles w o None d h = awaits w o (awaited w.call o) d h
settles w o (Some u) d h = issues w o u d h

by-verdict : (w : Waiting) (v : Verdict) (d : Doing) → Own d → OwnTried (try_verdict w v d)
by-verdict w (Need x m) d h = wants x m d h
by-verdict w (NeedIds xs) d h = rooms d h
by-verdict w (Lost ns xs) d h = answers w (answer.Lost ns) None xs (with_clerk (λ k. record k { owed = clear xs k.owed }) d) h
by-verdict w (Done o) d h = settles w o o.update d h

each-try : (before ws : List Waiting) (d : Doing) → Own d → OwnTried (try_each before ws d)
each-try before [] d h = h
each-try before (w ∷ ws) d h = go (try w d) (by-verdict w (verdict w.call d.clerk) d h) (λ e i. each-try (before ++ w ∷ []) ws e i)
  where
    go : (t : Tried) → OwnTried t → ((e : Doing) → Own e → OwnTried (try_each (before ++ w ∷ []) ws e)) → OwnTried (elim t as (λ q. Tried) [
      | Waits e ↦ try_each (before ++ w ∷ []) ws e
      | Answered e ↦ Answered (with_clerk (λ k. record k { waiting = before ++ ws }) e)
    ])
    go (Waits e) i r = r e i
    go (Answered e) i r = i

each-round : (n : ℕ) (d : Doing) → Own d → Own (try_rounds n d)
each-round zero d h = h
each-round (suc n) d h = go (try_each [] d.clerk.waiting d) (each-try [] d.clerk.waiting d h) (λ e i. each-round n e i)
  where
    go : (t : Tried) → OwnTried t → ((e : Doing) → Own e → Own (try_rounds n e)) → Own (elim t as (λ q. Doing) [ Waits e ↦ e | Answered e ↦ try_rounds n e ])
    go (Waits e) i r = i
    go (Answered e) i r = r e i

each-back : (es : List (ℕ × Held)) (d : Doing) → Own d → Own (send_backs es d)
each-back [] d h = h
each-back (e ∷ es) d h = each-back es _ (says (out.Send (Back (session d) (epoch d) e.0 (e.1).number Free)) tt d h)

evicts : (d : Doing) → Own d → Own (evict d)
evicts d h = go (nat_le (length d.clerk.cache.held) d.clerk.cache.capacity)
  where
    go : (z : Bool) → Own (elim z as (λ y. Doing) [ true ↦ d | false ↦ evict_unpinned (on_objects d.clerk.log.undurable) d ])
    go true = h
    go false = each-back (cache.evicted (on_objects d.clerk.log.undurable) d.clerk.cache) (with_cache (cache.evict (on_objects d.clerk.log.undurable)) d) h

pub settle-own : (d : Doing) → Own d → Own (settle d)
settle-own d h = evicts (try_all (elim (has_session d.clerk) as (λ y. Doing) [ true ↦ ask_pushes (answer_recalls d) | false ↦ d ])) (each-round (suc (length (elim (has_session d.clerk) as (λ y. Doing) [ true ↦ ask_pushes (answer_recalls d) | false ↦ d ]).clerk.waiting)) (elim (has_session d.clerk) as (λ y. Doing) [ true ↦ ask_pushes (answer_recalls d) | false ↦ d ]) (go (has_session d.clerk)))
  where
    go : (z : Bool) → Own (elim z as (λ y. Doing) [ true ↦ ask_pushes (answer_recalls d) | false ↦ d ])
    go true = let f = answer_recalls d in each-push f.clerk.pushes (with_clerk (λ k. record k { pushes = [] }) f) (each-recall d.clerk.recalls (with_clerk (λ k. record k { recalls = [] }) d) h)
    go false = h

-- What is outstanding.

each-need : (sent ps : List (ℕ × Hold)) (d : Doing) → Own d → Own (resend_needs sent ps d)
each-need sent [] d h = h
each-need sent (p ∷ ps) d h = each-need (p ∷ sent) ps (resend_want p.0 p.1 sent d) (wants-again p.0 p.1 sent d h)

room-again : (o : Option ℕ) (d : Doing) → Own d → Own (resend_room o d)
room-again None d h = h
room-again (Some n) d h = each-more IsOwn d.outs _ h (tt, tt)

each-batch : (bs : List ℕ) (d : Doing) → Own d → Own (resend_batches bs d)
each-batch [] d h = h
each-batch (b ∷ bs) d h = each-batch bs (send_batch b d) (each-more IsOwn d.outs _ h (tt, tt))

outstanding : (d : Doing) → Own d → Own (send_outstanding d)
outstanding d h =
    let e = resend_needs [] (needs d.clerk.waiting d.clerk) d in
    let i = each-need [] (needs d.clerk.waiting d.clerk) d h in
    each-batch (keys e.clerk.log.batches) (resend_room e.clerk.asking e) (room-again e.clerk.asking e i)

claims : (d : Doing) → Own d → Own (claim d)
claims d h = each-more IsOwn d.outs _ h (tt, tt)

greets : (d : Doing) → Own d → Own (hello d)
greets d h = each-more IsOwn d.outs _ h (tt, tt)

-- Messages.

within : (s e : ℕ) (f : Doing → Doing) (d : Doing) → Own d → (Own d → Own (f d)) → Own (in_session s e f d)
within s e f d h i = go (is_session s d.clerk.session && (e == epoch d))
  where
    go : (z : Bool) → Own (elim z as (λ y. Doing) [ true ↦ f d | false ↦ d ])
    go true = i h
    go false = h

or-greets : (s : ℕ) (f : Doing → Doing) (d : Doing) → Own d → (Own d → Own (f d)) → Own (or_hello s f d)
or-greets s f d h i = go (has_session d.clerk) (is_session s d.clerk.session)
  where
    go : (y z : Bool) → Own (elim y as (λ q. Doing) [ false ↦ hello d | true ↦ elim z as (λ q. Doing) [ true ↦ f d | false ↦ d ] ])
    go false z = greets d h
    go true true = i h
    go true false = h

refuses : (live reserved : ℕ) (ws : List Waiting) (d : Doing) → Own d → Own (refuse_makes live reserved ws d)
refuses live reserved [] d h = h
refuses live reserved (w ∷ ws) d h = refuses live reserved ws _ (go (idless (verdict w.call d.clerk)))
  where
    go : (o : Option (List ℕ)) → Own (elim o as (λ z. Doing) [ Some xs ↦ refuse_make live reserved w.no xs d | None ↦ keep_call w d ])
    go (Some xs) = each-more IsOwn d.outs _ h (tt, tt)
    go None = h

no-room : (ask live reserved : ℕ) (d : Doing) → Own d → Own (take_no_room ask live reserved d)
no-room ask live reserved d h = go (is_session ask d.clerk.asking)
  where
    go : (z : Bool) → Own (elim z as (λ y. Doing) [ true ↦ refuse_makes live reserved d.clerk.waiting (with_clerk (λ k. record k { asking = None; waiting = [] }) d) | false ↦ d ])
    go true = refuses live reserved d.clerk.waiting (with_clerk (λ k. record k { asking = None; waiting = [] }) d) h
    go false = h

restarted : (e : ℕ) (d : Doing) → Own d → Own (take_restarted e d)
restarted e d h = go (nat_lt e (epoch d)) (nat_lt (epoch d) e)
  where
    go : (z y : Bool) → Own (elim z as (λ o. Doing) [ true ↦ d | false ↦ send_outstanding (claim (elim y as (λ o. Doing) [ true ↦ with_clerk (enter_epoch e) d | false ↦ d ])) ])
    go true y = h
    go false true = outstanding (claim (with_clerk (enter_epoch e) d)) (claims (with_clerk (enter_epoch e) d) h)
    go false false = outstanding (claim d) (claims d h)

ended : (w : Window) (d : Doing) → Own d → Own (take_ended w d)
ended w d h = go (nat_le last_round d.clerk.age.round)
  where
    go : (y : Bool) → Own (elim y as (λ x. Doing) [ true ↦ spend counter.Round d | false ↦ hello (emit (out.Told (keys (log.lost w d.clerk.log))) (with_clerk (lose (log.lost w d.clerk.log)) d)) ])
    go true = h
    go false = greets (emit (out.Told (keys (log.lost w d.clerk.log))) (with_clerk (lose (log.lost w d.clerk.log)) d)) (says (out.Told (keys (log.lost w d.clerk.log))) tt (with_clerk (lose (log.lost w d.clerk.log)) d) h)

pub taken-own : (m : Msg) (d : Doing) → Own d → Own (taken m d)
taken-own (Opened age s e) d h = go (not (has_session d.clerk) && same_age age d.clerk.age)
  where
    go : (z : Bool) → Own (elim z as (λ y. Doing) [ true ↦ send (Claim s e []) (with_clerk (λ k. record k { session = Some s; epoch = e }) d) | false ↦ d ])
    go true = each-more IsOwn d.outs _ h (tt, tt)
    go false = h
taken-own (Grant s e x n m i) d h = within s e (with_cache (cache.take x m n i)) d h (λ i. i)
taken-own (Recall s e x n to) d h = within s e (take_recall x n to) d h (λ i. go i (nat_lt n (cache.last x d.clerk.cache)))
  where
    go : Own d → (z : Bool) → Own (elim z as (λ y. Doing) [ true ↦ d | false ↦ keep_recall (record { obj = x; number = n; to = to }) (with_cache (mark_recall x to) d) ])
    go i true = i
    go i false = i
taken-own (Kept s e b) d h = go (is_session s d.clerk.session)
  where
    go : (z : Bool) → Own (elim z as (λ y. Doing) [ true ↦ with_log (log.kept b) d | false ↦ d ])
    go true = h
    go false = h
taken-own (Ids s e got n first) d h = within s e (take_ids got n first) d h (λ i. go i (got == d.clerk.got) (nat_le last_grants got))
  where
    go : Own d → (z y : Bool) → Own (elim z as (λ o. Doing) [ false ↦ d | true ↦ elim y as (λ o. Doing) [ true ↦ spend counter.Id d | false ↦ with_clerk (add_ids n first) d ] ])
    go i false y = i
    go i true true = i
    go i true false = i
taken-own (NoRoom s e ask live reserved) d h = no-room ask live reserved d h
taken-own (Ended s low mask) d h = or-greets s (take_ended (record { low = low; mask = mask })) d h (ended (record { low = low; mask = mask }) d)
taken-own (Restarted s e) d h = or-greets s (take_restarted e) d h (restarted e d)
taken-own (OldBoot asked greatest) d h = go (same_age asked d.clerk.age)
  where
    go : (z : Bool) → Own (elim z as (λ y. Doing) [ true ↦ emit (out.OldBoot greatest) d | false ↦ d ])
    go true = says (out.OldBoot greatest) tt d h
    go false = h
taken-own _ d h = h

-- Steps.

pub take-own : (m : Msg) (k : Clerk) → Own (take m k)
take-own m k = settle-own (taken m (doing k)) (taken-own m (doing k) tt)

pub begin-own : (cl : Call) (k : Clerk) → Own (begin cl k)
begin-own cl k = go (nat_le last_counter k.calls)
  where
    go : (z : Bool) → Own (elim z as (λ y. Doing) [ true ↦ spend counter.CallNo (doing k) | false ↦ settle (doing (add_call cl k)) ])
    go true = tt
    go false = settle-own (doing (add_call cl k)) tt

pub push-own : (n : ℕ) (k : Clerk) → Own (push n k)
push-own n k = settle-own (elim (nat_le k.log.first n) as (λ y. Doing) [ true ↦ keep_push n (doing k) | false ↦ doing k ]) (go (nat_le k.log.first n))
  where
    go : (z : Bool) → Own (elim z as (λ y. Doing) [ true ↦ keep_push n (doing k) | false ↦ doing k ])
    go true = tt
    go false = tt

pub resend-own : (k : Clerk) → Own (resend k)
resend-own k = go (has_session k)
  where
    go : (z : Bool) → Own (elim z as (λ y. Doing) [ true ↦ send_outstanding (claim (doing k)) | false ↦ hello (doing k) ])
    go true = outstanding (claim (doing k)) (claims (doing k) tt)
    go false = greets (doing k) tt

pub start-own : (c boot : ℕ) → Own (start c boot)
start-own c boot = go (nat_lt last_counter boot)
  where
    go : (z : Bool) → Own (elim z as (λ y. Doing) [ true ↦ spend counter.Boot (doing (new_clerk c boot)) | false ↦ hello (doing (new_clerk c boot)) ])
    go true = tt
    go false = (tt, tt)

-- so nobody says it
pub own-silent : (c : ℕ) (os : List Out) → Each IsOwn os → Each (λ m. IsNoBye m.1) (sends c os)
own-silent c [] h = tt
own-silent c (out.Send m ∷ os) h = (h.0, own-silent c os h.1)
own-silent c (out.Told ns ∷ os) h = own-silent c os h.1
own-silent c (out.Answer n a op ∷ os) h = own-silent c os h.1
own-silent c (out.OldBoot a ∷ os) h = own-silent c os h.1
