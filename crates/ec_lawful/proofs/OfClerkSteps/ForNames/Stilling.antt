-- The functions of a step that answer no call leave the session, the ids, and how often they were taken.
use Rattle.std.proofs.Common.{◌≡◌, refl, sym, ap, subst, ℕ, Bool, true, false, not, ◌&&◌, ◌+◌, List, [], ◌∷◌, length}
use Rattle.std.specs.Prelude.{◌==◌, ◌^◌, Option, None, Some, is_some, is_none, nat_le, nat_lt}
use Rattle.std.specs.List.{list_any}
use Rattle.ec_base.specs.Tables.{keys}
use Rattle.ec_base.specs.declared.counter.Counter.TheVariants as counter
use Rattle.ec_base.specs.declared.ids.Hold.{Hold}
use Rattle.ec_base.specs.declared.ids.Hold.TheVariants.{Free}
use Rattle.ec_wire.specs.declared.msg.Msg.{Msg}
use Rattle.ec_wire.specs.declared.msg.Msg.TheVariants.{Back, Grant, Kept, Recall, Restarted}
use Rattle.ec_cache.specs.Cache as cache
use Rattle.ec_cache.specs.declared.state.Held.{Held}
use Rattle.ec_log.specs.Log as log
use Rattle.ec_log.specs.declared.state.Asked.{Asked}
use Rattle.ec_log.specs.declared.state.Asked.TheVariants as asked
use Rattle.ec_log.specs.declared.state.Pick.{Pick}
use Rattle.ec_log.specs.declared.state.Pick.TheVariants as pick_of
use Rattle.ec_protocol.specs.declared.clerk.Clerk.{Clerk}
use Rattle.ec_protocol.specs.declared.clerk.Recalled.{Recalled}
use Rattle.ec_protocol.specs.Clerk.{Doing, answer_recalls, ask_anew, ask_for, ask_pushes, ask_room, claim, enter_epoch, epoch, evict, evict_unpinned, give_back, has_session, hello, is_need, is_ready, is_session, is_settled, is_wanted, keep_push, keep_recall, mark_recall, may_want, needs, on_objects, resend_batches, resend_needs, resend_room, resend_want, send, send_backs, send_batch, send_outstanding, send_picked, send_room, send_want, session, spend, take_recall, take_restarted, taken, try_pushes, try_recalls, want, wanted, with_cache, with_clerk, with_log}
use Rattle.ec_lawful.specs.OfClerkSteps.DoingLaws.{IsGrant, IsKept, IsRecall, IsRestarted}
use Rattle.ec_lawful.specs.OfClerkSteps.Moves.{IsStill}
use Rattle.ec_lawful.specs.OfClerkSteps.FreeLaws.{AreStill}

module _ (k : Clerk) where
  abbrev Still : Doing → Type 0
  Still e = IsStill k e.clerk

  -- where both ways are, so is the choice
  choose : (z : Bool) (d e : Doing) → Still d → Still e → Still (elim z as (λ y. Doing) [ true ↦ d | false ↦ e ])
  choose true d e h i = h
  choose false d e h i = i

  pub ask : (a : Asked) (e : Doing) → Still e → Still (ask_for a e)
  ask a e h = go (log.pick a e.clerk.log)
    where
      go : (p : Pick) → Still (send_picked p e)
      go (pick_of.Batch b ns) = choose (log.batches_are_spent e.clerk.log) (spend counter.Batch e) (send_batch b (with_log (log.after_pick (pick_of.Batch b ns)) e)) h h
      go (pick_of.Behind b) = h
      go (pick_of.Window b) = h
      go pick_of.Settled = h

  pub want-once : (x : ℕ) (m : Hold) (e : Doing) → Still e → Still (want x m e)
  want-once x m e h = choose (may_want x m e.clerk && not (list_any (is_wanted (wanted x m e.clerk)) e.clerk.wanted)) (send_want x m e) e h h

  pub want-again : (x : ℕ) (m : Hold) (sent : List (ℕ × Hold)) (e : Doing) → Still e → Still (resend_want x m sent e)
  want-again x m sent e h = choose (may_want x m e.clerk && not (list_any (is_need x m) sent)) (send_want x m e) e h h

  pub room : (e : Doing) → Still e → Still (ask_room e)
  room e h = choose (has_session e.clerk && is_none e.clerk.asking) (ask_anew e) e
      (choose (nat_le (2 ^ 62) e.clerk.asks) (spend counter.Ask e) (send_room (e.clerk.asks + 1) (with_clerk (λ k. record k { asking = Some (k.asks + 1); asks = k.asks + 1 }) e)) h h) h

  recalls : (rs : List Recalled) (e : Doing) → Still e → Still (try_recalls rs e)
  recalls [] e h = h
  recalls (r ∷ rs) e h = recalls rs _ (choose (is_ready r e.clerk) (give_back r e) (keep_recall r (ask_for (asked.Object r.obj) e)) h (ask (asked.Object r.obj) e h))

  pushes : (ns : List ℕ) (e : Doing) → Still e → Still (try_pushes ns e)
  pushes [] e h = h
  pushes (n ∷ ns) e h = pushes ns _ (choose (is_settled (asked.Op n) e.clerk) e (ask_for (asked.Op n) (keep_push n e)) h (ask (asked.Op n) (keep_push n e) h))

  backs : (es : List (ℕ × Held)) (e : Doing) → Still e → Still (send_backs es e)
  backs [] e h = h
  backs (p ∷ es) e h = backs es (send (Back (session e) (epoch e) p.0 (p.1).number Free) e) h

  pub evicts : (e : Doing) → Still e → Still (evict e)
  evicts e h = choose (nat_le (length e.clerk.cache.held) e.clerk.cache.capacity) e (evict_unpinned (on_objects e.clerk.log.undurable) e) h
      (backs (cache.evicted (on_objects e.clerk.log.undurable) e.clerk.cache) (with_cache (cache.evict (on_objects e.clerk.log.undurable)) e) h)

  pub all-recalls : (e : Doing) → Still e → Still (answer_recalls e)
  all-recalls e h = recalls e.clerk.recalls (record e { clerk = record (e.clerk) { recalls = [] } }) h

  pub all-pushes : (e : Doing) → Still e → Still (ask_pushes e)
  all-pushes e h = pushes e.clerk.pushes (record e { clerk = record (e.clerk) { pushes = [] } }) h

  need : (sent ps : List (ℕ × Hold)) (e : Doing) → Still e → Still (resend_needs sent ps e)
  need sent [] e h = h
  need sent (p ∷ ps) e h = need (p ∷ sent) ps _ (want-again p.0 p.1 sent e h)

  room-again : (o : Option ℕ) (e : Doing) → Still e → Still (resend_room o e)
  room-again None e h = h
  room-again (Some n) e h = h

  batches : (bs : List ℕ) (e : Doing) → Still e → Still (resend_batches bs e)
  batches [] e h = h
  batches (b ∷ bs) e h = batches bs (send_batch b e) h

  pub outstanding : (e : Doing) → Still e → Still (send_outstanding e)
  outstanding e h =
      let f = resend_needs [] (needs e.clerk.waiting e.clerk) e in
      batches (keys f.clerk.log.batches) (resend_room f.clerk.asking f) (room-again f.clerk.asking f (need [] (needs e.clerk.waiting e.clerk) e h))

  abbrev entering : ℕ → Doing → Doing
  entering a e = elim (nat_lt (epoch e) a) as (λ y. Doing) [ true ↦ with_clerk (enter_epoch a) e | false ↦ e ]

  pub restarts : (a : ℕ) (e : Doing) → Still e → Still (take_restarted a e)
  restarts a e h = choose (nat_lt a (epoch e)) e (send_outstanding (claim (entering a e))) h (outstanding (claim (entering a e)) (choose (nat_lt (epoch e) a) (with_clerk (enter_epoch a) e) e h h))

  grants : (m : Msg) → IsGrant m → (e : Doing) → Still e → Still (taken m e)
  grants (Grant t a x n m i) p e h = choose (is_session t e.clerk.session && (a == epoch e)) (with_cache (cache.take x m n i) e) e h h
  grants _ p e h = absurd p

  takes-recall : (m : Msg) → IsRecall m → (e : Doing) → Still e → Still (taken m e)
  takes-recall (Recall t a x n to) p e h = choose (is_session t e.clerk.session && (a == epoch e)) (take_recall x n to e) e
      (choose (nat_lt n (cache.last x e.clerk.cache)) e (keep_recall (record { obj = x; number = n; to = to }) (with_cache (mark_recall x to) e)) h h) h
  takes-recall _ p e h = absurd p

  takes-kept : (m : Msg) → IsKept m → (e : Doing) → Still e → Still (taken m e)
  takes-kept (Kept t a b) p e h = choose (is_session t e.clerk.session) (with_log (log.kept b) e) e h h
  takes-kept _ p e h = absurd p

itself : (d : Doing) → IsStill d.clerk d.clerk
itself d = (refl, refl, refl)

pub are-still : AreStill
are-still = record {
  recalls = λ d. all-recalls d.clerk d (itself d);
  pushes = λ d. all-pushes d.clerk d (itself d);
  keep_push = λ n d. itself d;
  evict = λ d. evicts d.clerk d (itself d);
  ask_for = λ a d. ask d.clerk a d (itself d);
  claim = λ d. itself d;
  outstanding = λ d. outstanding d.clerk d (itself d);
  want = λ x h d. want-once d.clerk x h d (itself d);
  resend_want = λ x h sent d. want-again d.clerk x h sent d (itself d);
  ask_room = λ d. room d.clerk d (itself d);
  grants = λ m p d. grants d.clerk m p d (itself d);
  takes_recall = λ m p d. takes-recall d.clerk m p d (itself d);
  kept = λ m p d. takes-kept d.clerk m p d (itself d);
}

pub restarts-still : (d : Doing) (s : ℕ) → d.clerk.session ≡ Some s → (m : Msg) → IsRestarted m → IsStill d.clerk (taken m d).clerk
restarts-still d s p (Restarted t a) q =
    subst (λ z. IsStill d.clerk (elim z as (λ y. Doing) [ false ↦ hello d | true ↦ elim (is_session t d.clerk.session) as (λ y. Doing) [ true ↦ take_restarted a d | false ↦ d ] ]).clerk) (sym (ap is_some p))
    (choose d.clerk (is_session t d.clerk.session) (take_restarted a d) d (restarts d.clerk a d (itself d)) (itself d))
restarts-still d s p _ q = absurd q
