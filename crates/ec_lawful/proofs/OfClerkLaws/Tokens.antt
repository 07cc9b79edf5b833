-- A token leaves a clerk only where a step gives it back, or with its session.
use Rattle.std.proofs.Common.{◌≡◌, refl, sym, ap, subst, ◌∙◌, ◌≤◌, ◌⊎◌, inl, inr, ◌+◌, ℕ, T, Bool, true, false, not, cond, ◌==◌, ◌&&◌, ◌||◌, List, [], ◌∷◌, ◌++◌, Some, None, append-nil, append_assoc}
use Rattle.std.specs.Prelude.{length, nat_le, nat_lt}
use Rattle.std.specs.List.{list_any}
use Rattle.ec_base.specs.Holds.{rank}
use Rattle.ec_base.specs.Limits.{last_counter}
use Rattle.ec_base.specs.Tables.{at, keys}
use Rattle.ec_base.specs.declared.counter.Counter.TheVariants as counter
use Rattle.ec_base.specs.declared.ids.Hold.TheVariants.{Free}
use Rattle.ec_volume.specs.Update.{member, operands}
use Rattle.ec_plain.specs.declared.call.Call.{Call}
use Rattle.ec_cache.specs.Cache as cache
use Rattle.ec_cache.specs.Cache.{held_mode, mode}
use Rattle.ec_cache.specs.declared.state.Held.{Held}
use Rattle.ec_sessions.specs.Limits.{ids_per_grant, last_grants}
use Rattle.ec_sessions.specs.Slots.{run}
use Rattle.ec_wire.specs.declared.msg.Msg.{Msg}
use Rattle.ec_wire.specs.declared.msg.Msg.TheVariants.{Back, Claim, Ended, Grant, Ids, Kept, NoRoom, OldBoot, Opened, Recall, Restarted}
use Rattle.ec_log.specs.Log as log
use Rattle.ec_protocol.specs.Clerk.{Doing, add_call, add_ids, begin, claim, doing, emit, enter_epoch, epoch, evict, evict_unpinned, give_back, has_session, hello, is_session, keep_push, keep_recall, left_of, mark_recall, on_objects, push, resend, same_age, send, send_backs, send_outstanding, send_want, session, settle, spend, take, take_ended, take_no_room, taken, with_cache, with_clerk, with_log, with_update}
use Rattle.ec_protocol.specs.declared.clerk.Clerk.{Clerk}
use Rattle.ec_protocol.specs.declared.clerk.Out.{Out}
use Rattle.ec_protocol.specs.declared.clerk.Out.TheVariants as out
use Rattle.ec_protocol.specs.declared.clerk.Recalled.{Recalled}
use Rattle.ec_coherence.proofs.ForClerk.CacheChange.{at-used}
use Rattle.ec_coherence.proofs.ForClerk.Caches.{at-kept}
use Rattle.ec_lawful.specs.OfClerkLaws.Tokens.{TokensStay, TokensStayBehind, is_back, is_end, is_granted}
use Rattle.ec_lawful.proofs.OfClerkLaws.Modes.{ids-rise, le-then, lowered-other, marked-mode, numberless-mode, taken-mode}
use Rattle.ec_lawful.proofs.OfClerkLaws.Walk.{IsWalk, claims-all, greets, no-room, settled}
use Rattle.ec_base.proofs.Numbers.{le-same}
use Rattle.ec_lawful.proofs.OfClerkSteps.ForCalls.Resting.{mode-changed as changed-mode}

-- Some message in a list gives a token back.

any-left : (p : Out → Bool) (xs ys : List Out) → T (list_any p xs) → T (list_any p (xs ++ ys))
any-left p [] ys t = absurd t
any-left p (x ∷ xs) ys t = go (p x) t (any-left p xs ys)
  where
    go : (z : Bool) → T (z || list_any p xs) → (T (list_any p xs) → T (list_any p (xs ++ ys))) → T (z || list_any p (xs ++ ys))
    go true t f = tt
    go false t f = f t

any-right : (p : Out → Bool) (xs ys : List Out) → T (list_any p ys) → T (list_any p (xs ++ ys))
any-right p [] ys t = t
any-right p (x ∷ xs) ys t = go (p x) (any-right p xs ys t)
  where
    go : (z : Bool) → T (list_any p (xs ++ ys)) → T (z || list_any p (xs ++ ys))
    go true t = tt
    go false t = t

-- A step goes on.

record Leaves (d e : Doing) : Type 0 where
  more : List Out
  outs : e.outs ≡ d.outs ++ more
  kept : (x : ℕ) → (rank (mode x d.clerk.cache) ≤ rank (mode x e.clerk.cache)) ⊎ T (list_any (is_back x) more)

quiet : (d e : Doing) → e.outs ≡ d.outs → ((x : ℕ) → mode x e.clerk.cache ≡ mode x d.clerk.cache) → Leaves d e
quiet d e is m = record { more = []; outs = is ∙ sym (append-nil d.outs); kept = λ x. inl (subst (λ h. rank (mode x d.clerk.cache) ≤ rank h) (sym (m x)) (le-same (rank (mode x d.clerk.cache)))) }

says : (d e : Doing) (o : Out) → e.outs ≡ d.outs ++ o ∷ [] → e.clerk.cache ≡ d.clerk.cache → Leaves d e
says d e o is c = record { more = o ∷ []; outs = is; kept = λ x. inl (subst (λ k. rank (mode x d.clerk.cache) ≤ rank (mode x k)) (sym c) (le-same (rank (mode x d.clerk.cache)))) }

then : (d e f : Doing) → Leaves d e → Leaves e f → Leaves d f
then d e f p q = record {
  more = p.more ++ q.more;
  outs = q.outs ∙ ap (λ l. l ++ q.more) p.outs ∙ append_assoc d.outs p.more q.more;
  kept = λ x. go x (p.kept x) (q.kept x);
}
  where
    go : (x : ℕ) → (rank (mode x d.clerk.cache) ≤ rank (mode x e.clerk.cache)) ⊎ T (list_any (is_back x) p.more) → (rank (mode x e.clerk.cache) ≤ rank (mode x f.clerk.cache)) ⊎ T (list_any (is_back x) q.more)
        → (rank (mode x d.clerk.cache) ≤ rank (mode x f.clerk.cache)) ⊎ T (list_any (is_back x) (p.more ++ q.more))
    go x (inl a) (inl b) = inl (le-then (rank (mode x f.clerk.cache)) (rank (mode x e.clerk.cache)) (rank (mode x d.clerk.cache)) b a)
    go x (inl a) (inr b) = inr (any-right (is_back x) p.more q.more b)
    go x (inr a) b = inr (any-left (is_back x) p.more q.more a)

gives : (r : Recalled) (d : Doing) → Leaves d (give_back r d)
gives r d = record { more = out.Send (Back (session d) (epoch d) r.obj r.number (left_of r (at r.obj d.clerk.cache.held))) ∷ []; outs = refl; kept = λ x. go x (x == r.obj) refl }
  where
    go : (x : ℕ) (z : Bool) → (x == r.obj) ≡ z → (rank (mode x d.clerk.cache) ≤ rank (mode x (give_back r d).clerk.cache)) ⊎ T ((x == r.obj) || false)
    go x true e = inr (subst (λ z. T (z || false)) (sym e) tt)
    go x false e = inl (subst (λ h. rank (mode x d.clerk.cache) ≤ rank h) (sym (lowered-other r.obj x (left_of r (at r.obj d.clerk.cache.held)) (at r.obj d.clerk.cache.held) d.clerk.cache e)) (le-same (rank (mode x d.clerk.cache))))

abbrev backs : ℕ → ℕ → List (ℕ × Held) → List Out
backs s e [] = []
backs s e (t ∷ ts) = out.Send (Back s e t.0 (t.1).number Free) ∷ backs s e ts

backs-out : (ts : List (ℕ × Held)) (d : Doing) → (send_backs ts d).outs ≡ d.outs ++ backs (session d) (epoch d) ts
backs-out [] d = sym (append-nil d.outs)
backs-out (t ∷ ts) d =
    let o = out.Send (Back (session d) (epoch d) t.0 (t.1).number Free) in
    backs-out ts (emit o d) ∙ append_assoc d.outs (o ∷ []) (backs (session d) (epoch d) ts)

backs-clerk : (ts : List (ℕ × Held)) (d : Doing) → (send_backs ts d).clerk ≡ d.clerk
backs-clerk [] d = refl
backs-clerk (t ∷ ts) d = backs-clerk ts (send (Back (session d) (epoch d) t.0 (t.1).number Free) d)

goes-back : (x s e : ℕ) (ts : List (ℕ × Held)) → T (member x (keys ts)) → T (list_any (is_back x) (backs s e ts))
goes-back x s e [] t = absurd t
goes-back x s e (u ∷ ts) t = go (x == u.0) t (goes-back x s e ts)
  where
    go : (z : Bool) → T (z || member x (keys ts)) → (T (member x (keys ts)) → T (list_any (is_back x) (backs s e ts))) → T (z || list_any (is_back x) (backs s e ts))
    go true t f = tt
    go false t f = f t

evicts : (d : Doing) → Leaves d (evict d)
evicts d = go (nat_le (length d.clerk.cache.held) d.clerk.cache.capacity)
  where
    unpinned : Leaves d (evict_unpinned (on_objects d.clerk.log.undurable) d)
    unpinned = record {
      more = backs (session d) (epoch d) out-of;
      outs = backs-out out-of f;
      kept = λ x. subst (λ k. (rank (mode x d.clerk.cache) ≤ rank (mode x k.cache)) ⊎ T (list_any (is_back x) (backs (session d) (epoch d) out-of))) (sym (backs-clerk out-of f)) (by x (member x (keys out-of)) refl);
    }
      where
        out-of : List (ℕ × Held)
        out-of = cache.evicted (on_objects d.clerk.log.undurable) d.clerk.cache

        f : Doing
        f = with_cache (cache.evict (on_objects d.clerk.log.undurable)) d

        by : (x : ℕ) (z : Bool) → member x (keys out-of) ≡ z → (rank (mode x d.clerk.cache) ≤ rank (mode x f.clerk.cache)) ⊎ T (list_any (is_back x) (backs (session d) (epoch d) out-of))
        by x true e = inr (goes-back x (session d) (epoch d) out-of (subst T (sym e) tt))
        by x false e = inl (subst (λ o. rank (mode x d.clerk.cache) ≤ rank (held_mode o)) (sym (at-kept x (keys out-of) d.clerk.cache.held ∙ ap (λ z. cond z None (at x d.clerk.cache.held)) e)) (le-same (rank (mode x d.clerk.cache))))

    go : (z : Bool) → Leaves d (elim z as (λ y. Doing) [ true ↦ d | false ↦ evict_unpinned (on_objects d.clerk.log.undurable) d ])
    go true = quiet d d refl (λ x. refl)
    go false = unpinned

leaves : IsWalk Leaves
leaves = record {
  same = λ d. quiet d d refl (λ x. refl);
  then = then;
  still = λ d e is s p c. quiet d e is (λ x. ap (mode x) c);
  used = λ xs d. quiet d (with_cache (cache.all_used xs) d) refl (λ x. ap held_mode (at-used xs x d.clerk.cache));
  changed = λ u d. quiet d (with_clerk (with_update u) d) refl (λ x. changed-mode u (operands u) x d.clerk.cache);
  sends = λ m d i. says d (emit (out.Send m) d) (out.Send m) refl refl;
  answers = λ n a op d. says d (emit (out.Answer n a op) d) (out.Answer n a op) refl refl;
  wants = λ x m d h. says d (send_want x m d) _ refl refl;
  gives = gives;
  evicts = evicts;
}

-- Whole steps of a clerk, from where nothing came out.

from-none : (k : Clerk) (e : Doing) → Leaves (doing k) e → TokensStay k e
from-none k e g x = go (g.kept x)
  where
    go : (rank (mode x k.cache) ≤ rank (mode x e.clerk.cache)) ⊎ T (list_any (is_back x) g.more) → (rank (mode x k.cache) ≤ rank (mode x e.clerk.cache)) ⊎ T (list_any (is_back x) e.outs)
    go (inl a) = inl a
    go (inr b) = inr (subst (λ l. T (list_any (is_back x) l)) (sym g.outs) b)

behind : (m : Msg) (k : Clerk) (f e : Doing) → TokensStayBehind m k f → Leaves f e → TokensStayBehind m k e
behind m k f e h g x = go (h x) (g.kept x)
  where
    go : (rank (mode x k.cache) ≤ rank (mode x f.clerk.cache)) ⊎ (T (list_any (is_back x) f.outs) ⊎ T (is_granted x m || is_end m k)) → (rank (mode x f.clerk.cache) ≤ rank (mode x e.clerk.cache)) ⊎ T (list_any (is_back x) g.more)
        → (rank (mode x k.cache) ≤ rank (mode x e.clerk.cache)) ⊎ (T (list_any (is_back x) e.outs) ⊎ T (is_granted x m || is_end m k))
    go (inl a) (inl b) = inl (le-then (rank (mode x e.clerk.cache)) (rank (mode x f.clerk.cache)) (rank (mode x k.cache)) b a)
    go (inl a) (inr b) = inr (inl (subst (λ l. T (list_any (is_back x) l)) (sym g.outs) (any-right (is_back x) f.outs g.more b)))
    go (inr (inl t)) b = inr (inl (subst (λ l. T (list_any (is_back x) l)) (sym g.outs) (any-left (is_back x) f.outs g.more t)))
    go (inr (inr t)) b = inr (inr t)

module _ (k : Clerk) where
  abbrev d : Doing
  d = doing k

  stays : (m : Msg) (f : Doing) → ((x : ℕ) → mode x f.clerk.cache ≡ mode x k.cache) → TokensStayBehind m k f
  stays m f e x = inl (subst (λ h. rank (mode x k.cache) ≤ rank h) (sym (e x)) (le-same (rank (mode x k.cache))))

  by-step : (m : Msg) (f : Doing) → Leaves d f → TokensStayBehind m k f
  by-step m f g = behind m k d f (stays m d (λ x. refl)) g

  restarted : (m : Msg) (e : ℕ) → (z y : Bool) → TokensStayBehind m k (elim z as (λ o. Doing) [ true ↦ d | false ↦ send_outstanding (claim (elim y as (λ o. Doing) [ true ↦ with_clerk (enter_epoch e) d | false ↦ d ])) ])
  restarted m e true y = stays m d (λ x. refl)
  restarted m e false true = let f = with_clerk (enter_epoch e) d in behind m k f (send_outstanding (claim f)) (stays m f (λ x. numberless-mode x k.cache)) (claims-all Leaves leaves f)
  restarted m e false false = by-step m (send_outstanding (claim d)) (claims-all Leaves leaves d)

  taken-stay : (m : Msg) → TokensStayBehind m k (taken m d)
  taken-stay (Opened age s e) = go (not (has_session k) && same_age age k.age)
    where
      go : (z : Bool) → TokensStayBehind (Opened age s e) k (elim z as (λ y. Doing) [ true ↦ send (Claim s e []) (with_clerk (λ c. record c { session = Some s; epoch = e }) d) | false ↦ d ])
      go true = stays (Opened age s e) (send (Claim s e []) (with_clerk (λ c. record c { session = Some s; epoch = e }) d)) (λ x. refl)
      go false = stays (Opened age s e) d (λ x. refl)
  taken-stay (Grant s e y n h i) = go (is_session s k.session && (e == k.epoch))
    where
      own : (x : ℕ) (z : Bool) → (x == y) ≡ z → (rank (mode x k.cache) ≤ rank (mode x (cache.take y h n i k.cache))) ⊎ (⊥ ⊎ T ((x == y) || false))
      own x true q = inr (inr (subst (λ z. T (z || false)) (sym q) tt))
      own x false q = inl (subst (λ m. rank (mode x k.cache) ≤ rank m) (sym (taken-mode y h n i x k.cache q)) (le-same (rank (mode x k.cache))))

      go : (z : Bool) → TokensStayBehind (Grant s e y n h i) k (elim z as (λ q. Doing) [ true ↦ with_cache (cache.take y h n i) d | false ↦ d ])
      go true = λ x. own x (x == y) refl
      go false = stays (Grant s e y n h i) d (λ x. refl)
  taken-stay (Recall s e y n to) = go (is_session s k.session && (e == k.epoch)) (nat_lt n (cache.last y k.cache))
    where
      go : (z u : Bool) → TokensStayBehind (Recall s e y n to) k (elim z as (λ q. Doing) [ true ↦ elim u as (λ q. Doing) [ true ↦ d | false ↦ keep_recall (record { obj = y; number = n; to = to }) (with_cache (mark_recall y to) d) ] | false ↦ d ])
      go false u = stays (Recall s e y n to) d (λ x. refl)
      go true true = stays (Recall s e y n to) d (λ x. refl)
      go true false = stays (Recall s e y n to) (keep_recall (record { obj = y; number = n; to = to }) (with_cache (mark_recall y to) d)) (λ x. marked-mode y to x k.cache)
  taken-stay (Kept s e b) = go (is_session s k.session)
    where
      go : (z : Bool) → TokensStayBehind (Kept s e b) k (elim z as (λ q. Doing) [ true ↦ with_log (log.kept b) d | false ↦ d ])
      go true = stays (Kept s e b) (with_log (log.kept b) d) (λ x. refl)
      go false = stays (Kept s e b) d (λ x. refl)
  taken-stay (Ids s e got n first) = go (is_session s k.session && (e == k.epoch)) (got == k.got) (nat_le last_grants got)
    where
      go : (z y u : Bool) → TokensStayBehind (Ids s e got n first) k (elim z as (λ q. Doing) [ true ↦ elim y as (λ q. Doing) [ false ↦ d | true ↦ elim u as (λ q. Doing) [ true ↦ spend counter.Id d | false ↦ with_clerk (add_ids n first) d ] ] | false ↦ d ])
      go false y u = stays (Ids s e got n first) d (λ x. refl)
      go true false u = stays (Ids s e got n first) d (λ x. refl)
      go true true true = stays (Ids s e got n first) (spend counter.Id d) (λ x. refl)
      go true true false = λ x. inl (ids-rise n (run first ids_per_grant) x k.cache)
  taken-stay (NoRoom s e ask live reserved) = by-step (NoRoom s e ask live reserved) (take_no_room ask live reserved d) (no-room Leaves leaves ask live reserved d)
  taken-stay (Ended s low mask) = go (has_session k) (is_session s k.session) refl
    where
      go : (y z : Bool) → is_session s k.session ≡ z → TokensStayBehind (Ended s low mask) k (elim y as (λ q. Doing) [ false ↦ hello d | true ↦ elim z as (λ q. Doing) [ true ↦ take_ended (record { low = low; mask = mask }) d | false ↦ d ] ])
      go false z e = by-step (Ended s low mask) (hello d) (greets Leaves leaves d)
      go true false e = stays (Ended s low mask) d (λ x. refl)
      go true true e = λ x. inr (inr (subst T (sym e) tt))
  taken-stay (Restarted s e) = go (has_session k) (is_session s k.session)
    where
      go : (y z : Bool) → TokensStayBehind (Restarted s e) k (elim y as (λ q. Doing) [ false ↦ hello d | true ↦ elim z as (λ q. Doing) [ true ↦ elim (nat_lt e k.epoch) as (λ o. Doing) [ true ↦ d | false ↦ send_outstanding (claim (elim (nat_lt k.epoch e) as (λ o. Doing) [ true ↦ with_clerk (enter_epoch e) d | false ↦ d ])) ] | false ↦ d ] ])
      go false z = by-step (Restarted s e) (hello d) (greets Leaves leaves d)
      go true false = stays (Restarted s e) d (λ x. refl)
      go true true = restarted (Restarted s e) e (nat_lt e k.epoch) (nat_lt k.epoch e)
  taken-stay (OldBoot asked greatest) = go (same_age asked k.age)
    where
      go : (z : Bool) → TokensStayBehind (OldBoot asked greatest) k (elim z as (λ y. Doing) [ true ↦ emit (out.OldBoot greatest) d | false ↦ d ])
      go true = stays (OldBoot asked greatest) (emit (out.OldBoot greatest) d) (λ x. refl)
      go false = stays (OldBoot asked greatest) d (λ x. refl)
  taken-stay m = stays m d (λ x. refl)

pub take-stay : (m : Msg) (k : Clerk) → TokensStayBehind m k (take m k)
take-stay m k = behind m k (taken m (doing k)) (take m k) (taken-stay k m) (settled Leaves leaves (taken m (doing k)))

pub begin-stay : (cl : Call) (k : Clerk) → TokensStay k (begin cl k)
begin-stay cl k = go (nat_le last_counter k.calls)
  where
    go : (z : Bool) → TokensStay k (elim z as (λ y. Doing) [ true ↦ spend counter.CallNo (doing k) | false ↦ settle (doing (add_call cl k)) ])
    go true = λ x. inl (le-same (rank (mode x k.cache)))
    go false = from-none (add_call cl k) (settle (doing (add_call cl k))) (settled Leaves leaves (doing (add_call cl k)))

pub push-stay : (n : ℕ) (k : Clerk) → TokensStay k (push n k)
push-stay n k = go (nat_le k.log.first n)
  where
    go : (z : Bool) → TokensStay k (settle (elim z as (λ y. Doing) [ true ↦ keep_push n (doing k) | false ↦ doing k ]))
    go true = let f = keep_push n (doing k) in from-none k (settle f) (then (doing k) f (settle f) (quiet (doing k) f refl (λ x. refl)) (settled Leaves leaves f))
    go false = from-none k (settle (doing k)) (settled Leaves leaves (doing k))

pub resend-stay : (k : Clerk) → TokensStay k (resend k)
resend-stay k = go (has_session k)
  where
    go : (z : Bool) → TokensStay k (elim z as (λ y. Doing) [ true ↦ send_outstanding (claim (doing k)) | false ↦ hello (doing k) ])
    go true = from-none k (send_outstanding (claim (doing k))) (claims-all Leaves leaves (doing k))
    go false = from-none k (hello (doing k)) (greets Leaves leaves (doing k))
