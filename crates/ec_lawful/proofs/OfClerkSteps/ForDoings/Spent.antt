-- A counter that is spent stays so behind each function of a clerk's step.
use Rattle.std.proofs.Common.{◌≡◌, ℕ, Bool, true, false, not, ◌&&◌, ◌+◌, T, List, [], ◌∷◌, ◌++◌, length}
use Rattle.std.specs.Prelude.{◌==◌, ◌^◌, Option, None, Some, is_some, is_none, nat_le, nat_lt}
use Rattle.std.specs.List.{list_any}
use Rattle.ec_base.specs.Tables.{keys}
use Rattle.ec_base.specs.declared.counter.Counter.{Counter}
use Rattle.ec_base.specs.declared.counter.Counter.TheVariants as counter
use Rattle.ec_base.specs.declared.ids.Hold.{Hold}
use Rattle.ec_base.specs.declared.ids.Hold.TheVariants.{Free}
use Rattle.ec_volume.specs.declared.update.Update.{Update}
use Rattle.ec_plain.specs.declared.call.Outcome.{Outcome}
use Rattle.ec_history.specs.declared.entry.Answer.TheVariants as answer
use Rattle.ec_sessions.specs.declared.window.Window.{Window}
use Rattle.ec_wire.specs.declared.msg.Msg.{Msg}
use Rattle.ec_wire.specs.declared.msg.Msg.TheVariants.{Back, Claim, Opened, Grant, Recall, Kept, Ids, NoRoom, Ended, Restarted, OldBoot}
use Rattle.ec_cache.specs.Cache as cache
use Rattle.ec_cache.specs.declared.state.Held.{Held}
use Rattle.ec_log.specs.Log as log
use Rattle.ec_log.specs.declared.state.Asked.{Asked}
use Rattle.ec_log.specs.declared.state.Asked.TheVariants as asked
use Rattle.ec_log.specs.declared.state.Pick.{Pick}
use Rattle.ec_log.specs.declared.state.Pick.TheVariants as pick_of
use Rattle.ec_cache.specs.declared.resolve.verdict.Verdict.{Verdict}
use Rattle.ec_cache.specs.declared.resolve.verdict.Verdict.TheVariants.{Need, Lost, NeedIds, Done}
use Rattle.ec_protocol.specs.Server.{first_spent}
use Rattle.ec_protocol.specs.declared.clerk.Recalled.{Recalled}
use Rattle.ec_protocol.specs.declared.clerk.Waiting.{Waiting}
use Rattle.ec_protocol.specs.declared.clerk.Out.TheVariants as out
use Rattle.ec_protocol.specs.Clerk.{Doing, Tried, Waits, add_ids, answer_recalls, answer_with, ask_anew, ask_for, ask_pushes, ask_room, await, awaited, claim, emit, enter_epoch, epoch, evict, evict_unpinned, give_back, has_session, hello, idless, is_need, is_owing, is_ready, is_session, is_settled, is_wanted, issue, keep_call, keep_push, keep_recall, lose, mark_recall, may_want, needs, on_objects, refuse_make, refuse_makes, resend_batches, resend_needs, resend_room, resend_want, same_age, send, send_backs, send_batch, send_outstanding, send_picked, send_room, send_want, session, settle_outcome, spend, suits, take_ended, take_ids, take_recall, take_restarted, taken, try, try_pushes, try_recalls, try_verdict, verdict, want, wanted, with_cache, with_clerk, with_log, with_update}
use Rattle.ec_coherence.proofs.ForClerk.Settling.{Keeping, settle-keeps}
use Rattle.ec_coherence.proofs.ForClerk.Try.{OnTried}
use Rattle.ec_coherence.proofs.ForClerk.TriedList.{keeping}
use Rattle.ec_lawful.specs.OfClerkSteps.DoingLaws.{SpentStays}
use Rattle.ec_coherence.proofs.ForClerk.KeyedSteps.{entering}

abbrev pub IsSpent : Doing → Type 0
IsSpent e = T (is_some e.spent)

-- where both ways are, so is the choice
choose : (z : Bool) (d e : Doing) → IsSpent d → IsSpent e → IsSpent (elim z as (λ y. Doing) [ true ↦ d | false ↦ e ])
choose true d e h i = h
choose false d e h i = i

pub again : (n : Counter) (e : Doing) → IsSpent (spend n e)
again n e = go e.spent
  where
    go : (o : Option Counter) → T (is_some (first_spent o n))
    go None = tt
    go (Some m) = tt

-- Asking.

ask : (a : Asked) (e : Doing) → IsSpent e → IsSpent (ask_for a e)
ask a e h = go (log.pick a e.clerk.log)
  where
    go : (p : Pick) → IsSpent (send_picked p e)
    go (pick_of.Batch b ns) = choose (log.batches_are_spent e.clerk.log) (spend counter.Batch e) (send_batch b (with_log (log.after_pick (pick_of.Batch b ns)) e)) (again counter.Batch e) h
    go (pick_of.Behind b) = h
    go (pick_of.Window b) = h
    go pick_of.Settled = h

want-once : (x : ℕ) (m : Hold) (e : Doing) → IsSpent e → IsSpent (want x m e)
want-once x m e h = choose (may_want x m e.clerk && not (list_any (is_wanted (wanted x m e.clerk)) e.clerk.wanted)) (send_want x m e) e h h

want-again : (x : ℕ) (m : Hold) (sent : List (ℕ × Hold)) (e : Doing) → IsSpent e → IsSpent (resend_want x m sent e)
want-again x m sent e h = choose (may_want x m e.clerk && not (list_any (is_need x m) sent)) (send_want x m e) e h h

room : (e : Doing) → IsSpent e → IsSpent (ask_room e)
room e h = choose (has_session e.clerk && is_none e.clerk.asking) (ask_anew e) e
    (choose (nat_le (2 ^ 62) e.clerk.asks) (spend counter.Ask e) (send_room (e.clerk.asks + 1) (with_clerk (λ k. record k { asking = Some (k.asks + 1); asks = k.asks + 1 }) e)) (again counter.Ask e) h) h

-- Tries.

waits : (p : Waiting) (o : Outcome) (a : Option Asked) (e : Doing) → IsSpent e → OnTried IsSpent (await p o a e)
waits p o None e h = h
waits p o (Some a) e h = go (is_owing p.begun (log.first a e.clerk.log))
  where
    go : (z : Bool) → OnTried IsSpent (elim z as (λ y. Tried) [ true ↦ Waits (ask_for a e) | false ↦ answer_with p (answer.Reply o.reply) None o.touched e ])
    go true = ask a e h
    go false = h

issues : (p : Waiting) (o : Outcome) (u : Update) (e : Doing) → IsSpent e → OnTried IsSpent (issue p o u e)
issues p o u e h = go (log.ops_are_spent e.clerk.log)
  where
    go : (z : Bool) → OnTried IsSpent (elim z as (λ y. Tried) [ true ↦ Waits (spend counter.Op e) | false ↦ answer_with p (answer.Reply o.reply) (Some e.clerk.log.next) o.touched (with_clerk (with_update u) e) ])
    go true = again counter.Op e
    go false = h

outcomes : (p : Waiting) (o : Outcome) (u : Option Update) (e : Doing) → IsSpent e → OnTried IsSpent (settle_outcome p o u e)
outcomes p o None e h = waits p o (awaited p.call o) e h
outcomes p o (Some u) e h = go (suits u e.clerk.cache) (log.is_full e.clerk.log)
  where
    go : (a b : Bool) → OnTried IsSpent (elim a as (λ z. Tried) [ false ↦ Waits e | true ↦ elim b as (λ z. Tried) [ true ↦ Waits (ask_for asked.All e) | false ↦ issue p o u e ] ])
    go false b = h
    go true true = ask asked.All e h
    go true false = issues p o u e h

verdicts : (p : Waiting) (v : Verdict) (e : Doing) → IsSpent e → OnTried IsSpent (try_verdict p v e)
verdicts p (Need x m) e h = want-once x m e h
verdicts p (NeedIds xs) e h = room e h
verdicts p (Lost ns xs) e h = h
verdicts p (Done o) e h = outcomes p o o.update e h

tries : (before : List Waiting) (p : Waiting) (ws : List Waiting) (e : Doing) → IsSpent e → e.clerk.waiting ≡ before ++ p ∷ ws → Keeping IsSpent before p ws (try p e)
tries before p ws e h q = keeping IsSpent (λ vs f i. i) before p ws e q (verdicts p (verdict p.call e.clerk) e h)

-- Recalls and pushes.

recalls : (rs : List Recalled) (e : Doing) → IsSpent e → IsSpent (try_recalls rs e)
recalls [] e h = h
recalls (r ∷ rs) e h = recalls rs _ (choose (is_ready r e.clerk) (give_back r e) (keep_recall r (ask_for (asked.Object r.obj) e)) h (ask (asked.Object r.obj) e h))

pushes : (ns : List ℕ) (e : Doing) → IsSpent e → IsSpent (try_pushes ns e)
pushes [] e h = h
pushes (n ∷ ns) e h = pushes ns _ (choose (is_settled (asked.Op n) e.clerk) e (ask_for (asked.Op n) (keep_push n e)) h (ask (asked.Op n) (keep_push n e) h))

backs : (es : List (ℕ × Held)) (e : Doing) → IsSpent e → IsSpent (send_backs es e)
backs [] e h = h
backs (p ∷ es) e h = backs es (send (Back (session e) (epoch e) p.0 (p.1).number Free) e) h

evicts : (e : Doing) → IsSpent e → IsSpent (evict e)
evicts e h = choose (nat_le (length e.clerk.cache.held) e.clerk.cache.capacity) e (evict_unpinned (on_objects e.clerk.log.undurable) e) h
    (backs (cache.evicted (on_objects e.clerk.log.undurable) e.clerk.cache) (with_cache (cache.evict (on_objects e.clerk.log.undurable)) e) h)

all-recalls : (e : Doing) → IsSpent e → IsSpent (answer_recalls e)
all-recalls e h = recalls e.clerk.recalls (record e { clerk = record (e.clerk) { recalls = [] } }) h

all-pushes : (e : Doing) → IsSpent e → IsSpent (ask_pushes e)
all-pushes e h = pushes e.clerk.pushes (record e { clerk = record (e.clerk) { pushes = [] } }) h

-- What is outstanding.

need : (sent ps : List (ℕ × Hold)) (e : Doing) → IsSpent e → IsSpent (resend_needs sent ps e)
need sent [] e h = h
need sent (p ∷ ps) e h = need (p ∷ sent) ps _ (want-again p.0 p.1 sent e h)

room-again : (o : Option ℕ) (e : Doing) → IsSpent e → IsSpent (resend_room o e)
room-again None e h = h
room-again (Some n) e h = h

batches : (bs : List ℕ) (e : Doing) → IsSpent e → IsSpent (resend_batches bs e)
batches [] e h = h
batches (b ∷ bs) e h = batches bs (send_batch b e) h

outstanding : (e : Doing) → IsSpent e → IsSpent (send_outstanding e)
outstanding e h =
    let f = resend_needs [] (needs e.clerk.waiting e.clerk) e in
    batches (keys f.clerk.log.batches) (resend_room f.clerk.asking f) (room-again f.clerk.asking f (need [] (needs e.clerk.waiting e.clerk) e h))

-- Messages.

refuses : (live reserved : ℕ) (ws : List Waiting) (e : Doing) → IsSpent e → IsSpent (refuse_makes live reserved ws e)
refuses live reserved [] e h = h
refuses live reserved (p ∷ ws) e h = refuses live reserved ws _ (go (idless (verdict p.call e.clerk)))
  where
    go : (o : Option (List ℕ)) → IsSpent (elim o as (λ y. Doing) [ Some xs ↦ refuse_make live reserved p.no xs e | None ↦ keep_call p e ])
    go (Some xs) = h
    go None = h

restarts : (a : ℕ) (e : Doing) → IsSpent e → IsSpent (take_restarted a e)
restarts a e h = choose (nat_lt a (epoch e)) e (send_outstanding (claim (entering a e))) h (outstanding (claim (entering a e)) (choose (nat_lt (epoch e) a) (with_clerk (enter_epoch a) e) e h h))

ends : (v : Window) (e : Doing) → IsSpent e → IsSpent (take_ended v e)
ends v e h = choose (nat_le 4294967295 e.clerk.age.round) (spend counter.Round e) (hello (emit (out.Told (keys (log.lost v e.clerk.log))) (with_clerk (lose (log.lost v e.clerk.log)) e))) (again counter.Round e) h

takes : (m : Msg) (e : Doing) → IsSpent e → IsSpent (taken m e)
takes (Opened age t a) e h = choose (not (has_session e.clerk) && same_age age e.clerk.age) (send (Claim t a []) (with_clerk (λ k. record k { session = Some t; epoch = a }) e)) e h h
takes (Grant t a x n m i) e h = choose (is_session t e.clerk.session && (a == epoch e)) (with_cache (cache.take x m n i) e) e h h
takes (Recall t a x n to) e h = choose (is_session t e.clerk.session && (a == epoch e)) (take_recall x n to e) e
    (choose (nat_lt n (cache.last x e.clerk.cache)) e (keep_recall (record { obj = x; number = n; to = to }) (with_cache (mark_recall x to) e)) h h) h
takes (Kept t a b) e h = choose (is_session t e.clerk.session) (with_log (log.kept b) e) e h h
takes (Ids t a got n first) e h = choose (is_session t e.clerk.session && (a == epoch e)) (take_ids got n first e) e
    (choose (got == e.clerk.got) (elim (nat_le 4294967295 got) as (λ y. Doing) [ true ↦ spend counter.Id e | false ↦ with_clerk (add_ids n first) e ]) e (choose (nat_le 4294967295 got) (spend counter.Id e) (with_clerk (add_ids n first) e) (again counter.Id e) h) h) h
takes (NoRoom t a ask live reserved) e h = choose (is_session ask e.clerk.asking) (refuse_makes live reserved e.clerk.waiting (with_clerk (λ k. record k { asking = None; waiting = [] }) e)) e
    (refuses live reserved e.clerk.waiting (with_clerk (λ k. record k { asking = None; waiting = [] }) e) h) h
takes (Ended t l i) e h = choose (has_session e.clerk) (elim (is_session t e.clerk.session) as (λ y. Doing) [ true ↦ take_ended (record { low = l; mask = i }) e | false ↦ e ]) (hello e)
    (choose (is_session t e.clerk.session) (take_ended (record { low = l; mask = i }) e) e (ends (record { low = l; mask = i }) e h) h) h
takes (Restarted t a) e h = choose (has_session e.clerk) (elim (is_session t e.clerk.session) as (λ y. Doing) [ true ↦ take_restarted a e | false ↦ e ]) (hello e) (choose (is_session t e.clerk.session) (take_restarted a e) e (restarts a e h) h) h
takes (OldBoot asked greatest) e h = choose (same_age asked e.clerk.age) (emit (out.OldBoot greatest) e) e h h
takes _ e h = h

pub spent-stays : SpentStays
spent-stays = record {
  recalls = all-recalls;
  pushes = all-pushes;
  evict = evicts;
  ask_for = ask;
  claim = λ e h. h;
  outstanding = outstanding;
  want = want-once;
  resend_want = λ x m sent e h. want-again x m sent e h;
  ask_room = room;
  taken = takes;
  settle = settle-keeps IsSpent tries all-recalls all-pushes evicts;
}
