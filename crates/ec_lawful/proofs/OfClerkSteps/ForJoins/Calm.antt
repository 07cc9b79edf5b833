-- The functions of a clerk's step that answer no call leave its age, and its log knows no less.
use Rattle.std.proofs.Common.{◌≡◌, refl, sym, subst, ◌∙◌, ◌+◌, ℕ, Bool, true, false, ◌==◌, ◌&&◌, List, [], ◌∷◌, Option, Some, None}
use Rattle.std.specs.Prelude.{is_none, nat_le, nat_lt, not}
use Rattle.std.specs.List.{list_any}
use Rattle.ec_base.specs.Limits.{last_counter}
use Rattle.ec_base.specs.Tables.{keys}
use Rattle.ec_base.specs.declared.counter.Counter.TheVariants as counter
use Rattle.ec_base.specs.declared.ids.Hold.{Hold}
use Rattle.ec_cache.specs.Cache as cache
use Rattle.ec_cache.specs.declared.state.Held.{Held}
use Rattle.ec_sessions.specs.Limits.{last_grants}
use Rattle.ec_log.specs.Log.{after_pick, batches_are_spent, pick}
use Rattle.ec_log.specs.declared.state.Asked.{Asked}
use Rattle.ec_log.specs.declared.state.Asked.TheVariants.{Object, Op}
use Rattle.ec_log.specs.declared.state.Pick.{Pick}
use Rattle.ec_log.specs.declared.state.Pick.TheVariants as pick_of
use Rattle.ec_protocol.specs.Clerk.{Doing, add_ids, answer_recalls, ask_for, ask_pushes, ask_room, claim, enter_epoch, epoch, evict, evict_unpinned, give_back, has_session, in_session, is_need, is_ready, is_session, is_settled, is_wanted, keep_push, keep_recall, mark_recall, may_want, needs, on_objects, resend_batches, resend_needs, resend_room, resend_want, send_backs, send_batch, send_outstanding, send_picked, send_room, send_want, spend, take_ids, take_recall, take_restarted, try_pushes, try_recalls, want, wanted, with_cache, with_clerk, with_log}
use Rattle.ec_protocol.specs.declared.clerk.Recalled.{Recalled}
use Rattle.ec_coherence.proofs.ForBatches.LogChange.{pick-knows}
use Rattle.ec_lawful.specs.OfClerkSteps.Frames.{AreCalm, IsCalm, LogKeeps}

pub calm-rest : (d e : Doing) → e.clerk.age ≡ d.clerk.age → e.clerk.log ≡ d.clerk.log → IsCalm d e
calm-rest d e p q = record { age = p; log = subst (λ l. LogKeeps d.clerk.log l) (sym q) (λ w os dur kn. kn) }

pub calm-then : (d e f : Doing) → IsCalm d e → IsCalm e f → IsCalm d f
calm-then d e f p q = record { age = q.age ∙ p.age; log = λ w os dur kn. q.log w os dur (p.log w os dur kn) }

stays : (d : Doing) → IsCalm d d
stays d = calm-rest d d refl refl

-- a new batch is picked
pub calm-ask : (a : Asked) (d : Doing) → IsCalm d (ask_for a d)
calm-ask a d = by-pick (pick a d.clerk.log) refl
  where
    by-pick : (p : Pick) → pick a d.clerk.log ≡ p → IsCalm d (send_picked p d)
    by-pick (pick_of.Batch n ns) e = go (batches_are_spent d.clerk.log) refl
      where
        go : (z : Bool) → batches_are_spent d.clerk.log ≡ z → IsCalm d (elim z as (λ y. Doing) [ true ↦ spend counter.Batch d | false ↦ send_batch n (with_log (after_pick (pick_of.Batch n ns)) d) ])
        go true u = calm-rest d (spend counter.Batch d) refl refl
        go false u = record { age = refl; log = λ w os dur kn. pick-knows d.clerk.log w os dur kn a n ns e u }
    by-pick _ e = stays d

calm-recalls : (rs : List Recalled) (d : Doing) → IsCalm d (try_recalls rs d)
calm-recalls [] d = stays d
calm-recalls (r ∷ rs) d = calm-then d (elim (is_ready r d.clerk) as (λ y. Doing) [ true ↦ give_back r d | false ↦ keep_recall r (ask_for (Object r.obj) d) ]) (try_recalls (r ∷ rs) d) (go (is_ready r d.clerk))
    (calm-recalls rs (elim (is_ready r d.clerk) as (λ y. Doing) [ true ↦ give_back r d | false ↦ keep_recall r (ask_for (Object r.obj) d) ]))
  where
    go : (z : Bool) → IsCalm d (elim z as (λ y. Doing) [ true ↦ give_back r d | false ↦ keep_recall r (ask_for (Object r.obj) d) ])
    go true = calm-rest d (give_back r d) refl refl
    go false = calm-then d (ask_for (Object r.obj) d) (keep_recall r (ask_for (Object r.obj) d)) (calm-ask (Object r.obj) d) (calm-rest (ask_for (Object r.obj) d) (keep_recall r (ask_for (Object r.obj) d)) refl refl)

pub calm-answer-recalls : (d : Doing) → IsCalm d (answer_recalls d)
calm-answer-recalls d = calm-then d (with_clerk (λ k. record k { recalls = [] }) d) (answer_recalls d) (calm-rest d (with_clerk (λ k. record k { recalls = [] }) d) refl refl) (calm-recalls d.clerk.recalls (with_clerk (λ k. record k { recalls = [] }) d))

calm-pushes : (ns : List ℕ) (d : Doing) → IsCalm d (try_pushes ns d)
calm-pushes [] d = stays d
calm-pushes (n ∷ ns) d = calm-then d (elim (is_settled (Op n) d.clerk) as (λ y. Doing) [ true ↦ d | false ↦ ask_for (Op n) (keep_push n d) ]) (try_pushes (n ∷ ns) d) (go (is_settled (Op n) d.clerk))
    (calm-pushes ns (elim (is_settled (Op n) d.clerk) as (λ y. Doing) [ true ↦ d | false ↦ ask_for (Op n) (keep_push n d) ]))
  where
    go : (z : Bool) → IsCalm d (elim z as (λ y. Doing) [ true ↦ d | false ↦ ask_for (Op n) (keep_push n d) ])
    go true = stays d
    go false = calm-then d (keep_push n d) (ask_for (Op n) (keep_push n d)) (calm-rest d (keep_push n d) refl refl) (calm-ask (Op n) (keep_push n d))

pub calm-ask-pushes : (d : Doing) → IsCalm d (ask_pushes d)
calm-ask-pushes d = calm-then d (with_clerk (λ k. record k { pushes = [] }) d) (ask_pushes d) (calm-rest d (with_clerk (λ k. record k { pushes = [] }) d) refl refl) (calm-pushes d.clerk.pushes (with_clerk (λ k. record k { pushes = [] }) d))

pub calm-want : (x : ℕ) (h : Hold) (d : Doing) → IsCalm d (want x h d)
calm-want x h d = go (may_want x h d.clerk && not (list_any (is_wanted (wanted x h d.clerk)) d.clerk.wanted))
  where
    go : (z : Bool) → IsCalm d (elim z as (λ y. Doing) [ true ↦ send_want x h d | false ↦ d ])
    go true = calm-rest d (send_want x h d) refl refl
    go false = stays d

calm-resend : (x : ℕ) (h : Hold) (sent : List (ℕ × Hold)) (d : Doing) → IsCalm d (resend_want x h sent d)
calm-resend x h sent d = go (may_want x h d.clerk && not (list_any (is_need x h) sent))
  where
    go : (z : Bool) → IsCalm d (elim z as (λ y. Doing) [ true ↦ send_want x h d | false ↦ d ])
    go true = calm-rest d (send_want x h d) refl refl
    go false = stays d

pub calm-room : (d : Doing) → IsCalm d (ask_room d)
calm-room d = go (has_session d.clerk && is_none d.clerk.asking) (nat_le last_counter d.clerk.asks)
  where
    go : (z y : Bool) → IsCalm d (elim z as (λ o. Doing) [ true ↦ elim y as (λ o. Doing) [ true ↦ spend counter.Ask d | false ↦ send_room (d.clerk.asks + 1) (with_clerk (λ k. record k { asking = Some (k.asks + 1); asks = k.asks + 1 }) d) ] | false ↦ d ])
    go false y = stays d
    go true true = calm-rest d (spend counter.Ask d) refl refl
    go true false = calm-rest d (send_room (d.clerk.asks + 1) (with_clerk (λ k. record k { asking = Some (k.asks + 1); asks = k.asks + 1 }) d)) refl refl

calm-needs : (sent ps : List (ℕ × Hold)) (d : Doing) → IsCalm d (resend_needs sent ps d)
calm-needs sent [] d = stays d
calm-needs sent (p ∷ ps) d = calm-then d (resend_want p.0 p.1 sent d) (resend_needs sent (p ∷ ps) d) (calm-resend p.0 p.1 sent d) (calm-needs (p ∷ sent) ps (resend_want p.0 p.1 sent d))

calm-rooms : (o : Option ℕ) (d : Doing) → IsCalm d (resend_room o d)
calm-rooms None d = stays d
calm-rooms (Some n) d = calm-rest d (send_room n d) refl refl

calm-batches : (bs : List ℕ) (d : Doing) → IsCalm d (resend_batches bs d)
calm-batches [] d = stays d
calm-batches (b ∷ bs) d = calm-then d (send_batch b d) (resend_batches (b ∷ bs) d) (calm-rest d (send_batch b d) refl refl) (calm-batches bs (send_batch b d))

pub calm-outstanding : (d : Doing) → IsCalm d (send_outstanding d)
calm-outstanding d =
    let e = resend_needs [] (needs d.clerk.waiting d.clerk) d in
    let f = resend_room e.clerk.asking e in
    calm-then d e (send_outstanding d) (calm-needs [] (needs d.clerk.waiting d.clerk) d) (calm-then e f (send_outstanding d) (calm-rooms e.clerk.asking e) (calm-batches (keys e.clerk.log.batches) f))

calm-backs : (es : List (ℕ × Held)) (d : Doing) → IsCalm d (send_backs es d)
calm-backs [] d = stays d
calm-backs (e ∷ es) d = record { age = (calm-backs es _).age; log = (calm-backs es _).log }

pub calm-evict : (d : Doing) → IsCalm d (evict d)
calm-evict d = go (nat_le (Rattle.std.specs.Prelude.length d.clerk.cache.held) d.clerk.cache.capacity)
  where
    unpinned : (pinned : List ℕ) → IsCalm d (evict_unpinned pinned d)
    unpinned pinned = let q = calm-backs (cache.evicted pinned d.clerk.cache) (with_cache (cache.evict pinned) d) in record { age = q.age; log = q.log }

    go : (z : Bool) → IsCalm d (elim z as (λ y. Doing) [ true ↦ d | false ↦ evict_unpinned (on_objects d.clerk.log.undurable) d ])
    go true = stays d
    go false = unpinned (on_objects d.clerk.log.undurable)

pub calm-recall : (x n : ℕ) (h : Hold) (d : Doing) → IsCalm d (take_recall x n h d)
calm-recall x n h d = go (nat_lt n (cache.last x d.clerk.cache))
  where
    go : (z : Bool) → IsCalm d (elim z as (λ y. Doing) [ true ↦ d | false ↦ keep_recall (record { obj = x; number = n; to = h }) (with_cache (mark_recall x h) d) ])
    go true = stays d
    go false = calm-rest d (keep_recall (record { obj = x; number = n; to = h }) (with_cache (mark_recall x h) d)) refl refl

pub calm-ids : (got n first : ℕ) (d : Doing) → IsCalm d (take_ids got n first d)
calm-ids got n first d = go (got == d.clerk.got) (nat_le last_grants got)
  where
    go : (z y : Bool) → IsCalm d (elim z as (λ o. Doing) [ false ↦ d | true ↦ elim y as (λ o. Doing) [ true ↦ spend counter.Id d | false ↦ with_clerk (add_ids n first) d ] ])
    go false y = stays d
    go true true = calm-rest d (spend counter.Id d) refl refl
    go true false = calm-rest d (with_clerk (add_ids n first) d) refl refl

pub calm-restarted : (e : ℕ) (d : Doing) → IsCalm d (take_restarted e d)
calm-restarted e d = go (nat_lt e (epoch d)) (nat_lt (epoch d) e)
  where
    goes : (f : Doing) → IsCalm d f → IsCalm d (send_outstanding (claim f))
    goes f p = calm-then d f (send_outstanding (claim f)) p (calm-then f (claim f) (send_outstanding (claim f)) (calm-rest f (claim f) refl refl) (calm-outstanding (claim f)))

    go : (z y : Bool) → IsCalm d (elim z as (λ o. Doing) [ true ↦ d | false ↦ send_outstanding (claim (elim y as (λ o. Doing) [ true ↦ with_clerk (enter_epoch e) d | false ↦ d ])) ])
    go true y = stays d
    go false true = goes (with_clerk (enter_epoch e) d) (calm-rest d (with_clerk (enter_epoch e) d) refl refl)
    go false false = goes d (stays d)

pub calm-within : (s e : ℕ) (f : Doing → Doing) (d : Doing) → IsCalm d (f d) → IsCalm d (in_session s e f d)
calm-within s e f d p = go (is_session s d.clerk.session && (e == epoch d))
  where
    go : (z : Bool) → IsCalm d (elim z as (λ y. Doing) [ true ↦ f d | false ↦ d ])
    go true = p
    go false = stays d

pub are-calm : AreCalm
are-calm = record {
  asks = calm-ask;
  recalls = calm-answer-recalls;
  pushes = calm-ask-pushes;
  wants = calm-want;
  rooms = calm-room;
  claims = λ d. calm-rest d (claim d) refl refl;
  outstanding = calm-outstanding;
  evicts = calm-evict;
  grants = λ x h n i d. calm-rest d (with_cache (cache.take x h n i) d) refl refl;
  takes_recall = calm-recall;
  takes_ids = calm-ids;
  restarts = calm-restarted;
  within = calm-within;
  then = calm-then;
  rest = calm-rest;
}
