-- Each want that a step sends is of the clerk's session, and of a mode above the one that it holds then. While a step goes on the session stays, and no mode rises.
use Rattle.std.proofs.Common.{◌≡◌, refl, sym, ap, subst, ◌∙◌, ◌+◌, ℕ, Bool, true, false, not, ◌==◌, ◌&&◌, List, [], ◌∷◌, ◌++◌, Option, Some, None, append-nil, append_assoc}
use Rattle.std.specs.Prelude.{is_some, length, nat_le, nat_lt}
use Rattle.std.proofs.lemmas.Bool.{and_parts}
use Rattle.ec_base.specs.Holds.{is_below, rank}
use Rattle.ec_base.specs.Limits.{last_counter}
use Rattle.ec_base.specs.Tables.{at, keys, or_else}
use Rattle.ec_base.specs.declared.counter.Counter.TheVariants as counter
use Rattle.ec_base.specs.declared.ids.Hold.{Hold}
use Rattle.ec_base.specs.declared.ids.Hold.TheVariants.{Free}
use Rattle.ec_plain.specs.declared.call.Call.{Call}
use Rattle.ec_history.specs.History.{Each}
use Rattle.ec_history.specs.declared.entry.Answer.{Answer}
use Rattle.ec_cache.specs.Cache as cache
use Rattle.ec_cache.specs.Cache.{mode}
use Rattle.ec_cache.specs.declared.state.Held.{Held}
use Rattle.ec_sessions.specs.Limits.{last_grants, last_round}
use Rattle.ec_sessions.specs.declared.window.Window.{Window}
use Rattle.ec_wire.specs.declared.msg.Msg.{Msg}
use Rattle.ec_wire.specs.declared.msg.Msg.TheVariants.{Back, Grant, Ids, Kept, NoRoom, OldBoot, Opened, Ended, Recall, Restarted, Claim, Want}
use Rattle.ec_log.specs.Log as log
use Rattle.ec_protocol.specs.Clerk.{Doing, add_call, add_ids, begin, claim, doing, emit, enter_epoch, epoch, evict, evict_unpinned, give_back, has_session, hello, in_session, is_session, keep_push, keep_recall, left_of, lose, mark_recall, may_want, on_objects, or_hello, push, resend, same_age, send, send_backs, send_outstanding, send_want, session, settle, spend, take, take_ended, take_ids, take_no_room, take_recall, take_restarted, taken, under_recall, want, with_cache, with_clerk, with_log, with_update}
use Rattle.ec_protocol.specs.declared.clerk.Clerk.{Clerk}
use Rattle.ec_protocol.specs.declared.clerk.Out.{Out}
use Rattle.ec_protocol.specs.declared.clerk.Out.TheVariants as out
use Rattle.ec_protocol.specs.declared.clerk.Recalled.{Recalled}
use Rattle.ec_coherence.proofs.ForServer.Lists.{each-more}
use Rattle.ec_lawful.specs.OfClerkLaws.Wants.{WantsRightly}
use Rattle.ec_lawful.proofs.OfClerkLaws.Modes.{Falls, below-lower, changed-falls, evicted-falls, falls-same, le-then, lowers, used-falls}
use Rattle.ec_lawful.proofs.OfClerkLaws.Walk.{IsOther, IsWalk, claims-all, greets, no-room, settled}
use Rattle.ec_base.proofs.Numbers.{le-same}
use Rattle.ec_history.proofs.OfLaws.ForPlacing.BasesAlike.{each-map}

-- A step goes on.

record Lowers (k now : Clerk) : Type 0 where
  session : now.session ≡ k.session
  epoch : now.epoch ≡ k.epoch
  modes : Falls k.cache now.cache

stays : (k : Clerk) → Lowers k k
stays k = record { session = refl; epoch = refl; modes = λ x. le-same (rank (mode x k.cache)) }

unmoved : (k now : Clerk) → now.session ≡ k.session → now.epoch ≡ k.epoch → now.cache ≡ k.cache → Lowers k now
unmoved k now s p c = record { session = s; epoch = p; modes = falls-same k.cache now.cache (λ x. ap (λ z. at x z.held) c) }

rightly-sent : (k now : Clerk) → Lowers k now → (m : Msg) → WantsRightly k (out.Send m) → WantsRightly now (out.Send m)
rightly-sent k now l (Want s e x h last) w = (l.session ∙ w.0, l.epoch ∙ w.1, below-lower (mode x k.cache) (mode x now.cache) h (l.modes x) w.2)
rightly-sent k now l _ w = tt

rightly : (k now : Clerk) → Lowers k now → (o : Out) → WantsRightly k o → WantsRightly now o
rightly k now l (out.Send m) w = rightly-sent k now l m w
rightly k now l _ w = tt

abbrev pub Own : Doing → Type 0
Own d = Each (WantsRightly d.clerk) d.outs

record Goes (d e : Doing) : Type 0 where
  more : List Out
  outs : e.outs ≡ d.outs ++ more
  lowers : Lowers d.clerk e.clerk
  right : Each (WantsRightly e.clerk) more

own-then : (d e : Doing) → Own d → Goes d e → Own e
own-then d e h g = subst (Each (WantsRightly e.clerk)) (sym g.outs) (each-more (WantsRightly e.clerk) d.outs g.more (each-map (WantsRightly d.clerk) (WantsRightly e.clerk) (rightly d.clerk e.clerk g.lowers) d.outs h) g.right)

quiet : (d e : Doing) → e.outs ≡ d.outs → Lowers d.clerk e.clerk → Goes d e
quiet d e is l = record { more = []; outs = is ∙ sym (append-nil d.outs); lowers = l; right = tt }

-- only parts that wants don't name change
still : (d e : Doing) → e.outs ≡ d.outs → e.clerk.session ≡ d.clerk.session → e.clerk.epoch ≡ d.clerk.epoch → e.clerk.cache ≡ d.clerk.cache → Goes d e
still d e is s p c = quiet d e is (unmoved d.clerk e.clerk s p c)

sends : (d e : Doing) (o : Out) → e.outs ≡ d.outs ++ o ∷ [] → Lowers d.clerk e.clerk → WantsRightly e.clerk o → Goes d e
sends d e o is l w = record { more = o ∷ []; outs = is; lowers = l; right = (w, tt) }

then : (d e f : Doing) → Goes d e → Goes e f → Goes d f
then d e f p q = record {
  more = p.more ++ q.more;
  outs = q.outs ∙ ap (λ l. l ++ q.more) p.outs ∙ append_assoc d.outs p.more q.more;
  lowers = record {
    session = (q.lowers).session ∙ (p.lowers).session;
    epoch = (q.lowers).epoch ∙ (p.lowers).epoch;
    modes = λ x. le-then (rank (mode x d.clerk.cache)) (rank (mode x e.clerk.cache)) (rank (mode x f.clerk.cache)) ((p.lowers).modes x) ((q.lowers).modes x);
  };
  right = each-more (WantsRightly f.clerk) p.more q.more (each-map (WantsRightly e.clerk) (WantsRightly f.clerk) (rightly e.clerk f.clerk q.lowers) p.more p.right) q.right;
}

same : (d : Doing) → Goes d d
same d = still d d refl refl refl refl

-- Of each part of a step.

has-some : (o : Option ℕ) → is_some o ≡ true → o ≡ Some (or_else 0 o)
has-some None e = absurd (cc e)
has-some (Some s) e = refl

sends-want : (x : ℕ) (m : Hold) (d : Doing) → may_want x m d.clerk ≡ true → Goes d (send_want x m d)
sends-want x m d h =
    let p = and_parts (has_session d.clerk && not (under_recall x d.clerk)) (is_below (mode x d.clerk.cache) m) h in
    let q = and_parts (has_session d.clerk) (not (under_recall x d.clerk)) p.0 in
    let e = send_want x m d in
    sends d e _ refl (unmoved d.clerk e.clerk refl refl refl) (has-some d.clerk.session q.0, refl, p.1)

-- other messages
others : (k : Clerk) (m : Msg) → IsOther m → WantsRightly k (out.Send m)
others k (Want s e x h last) i = absurd i
others k _ i = tt

gives : (r : Recalled) (d : Doing) → Goes d (give_back r d)
gives r d = sends d (give_back r d) _ refl (record { session = refl; epoch = refl; modes = lowers r.obj (left_of r (at r.obj d.clerk.cache.held)) (at r.obj d.clerk.cache.held) d.clerk.cache }) tt

each-back : (es : List (ℕ × Held)) (d : Doing) → Goes d (send_backs es d)
each-back [] d = same d
each-back (e ∷ es) d = let f = send (Back (session d) (epoch d) e.0 (e.1).number Free) d in then d f (send_backs es f) (sends d f _ refl (stays d.clerk) tt) (each-back es f)

evicts : (d : Doing) → Goes d (evict d)
evicts d = go (nat_le (length d.clerk.cache.held) d.clerk.cache.capacity)
  where
    go : (z : Bool) → Goes d (elim z as (λ y. Doing) [ true ↦ d | false ↦ evict_unpinned (on_objects d.clerk.log.undurable) d ])
    go true = same d
    go false =
        let pinned = on_objects d.clerk.log.undurable in
        let f = with_cache (cache.evict pinned) d in
        then d f (evict_unpinned pinned d) (quiet d f refl (record { session = refl; epoch = refl; modes = evicted-falls pinned d.clerk.cache })) (each-back (cache.evicted pinned d.clerk.cache) f)

goes : IsWalk Goes
goes = record {
  same = same;
  then = then;
  still = still;
  used = λ xs d. quiet d (with_cache (cache.all_used xs) d) refl (record { session = refl; epoch = refl; modes = used-falls xs d.clerk.cache });
  changed = λ u d. quiet d (with_clerk (with_update u) d) refl (record { session = refl; epoch = refl; modes = changed-falls u d.clerk.cache });
  sends = λ m d i. sends d (emit (out.Send m) d) (out.Send m) refl (stays d.clerk) (others d.clerk m i);
  answers = λ n a op d. sends d (emit (out.Answer n a op) d) (out.Answer n a op) refl (stays d.clerk) tt;
  wants = sends-want;
  gives = gives;
  evicts = evicts;
}

-- Messages.

within : (s e : ℕ) (f : Doing → Doing) (d : Doing) → Own d → Own (f d) → Own (in_session s e f d)
within s e f d h i = go (is_session s d.clerk.session && (e == epoch d))
  where
    go : (z : Bool) → Own (elim z as (λ y. Doing) [ true ↦ f d | false ↦ d ])
    go true = i
    go false = h

or-greets : (s : ℕ) (f : Doing → Doing) (d : Doing) → Own d → Own (f d) → Own (or_hello s f d)
or-greets s f d h i = go (has_session d.clerk) (is_session s d.clerk.session)
  where
    go : (y z : Bool) → Own (elim y as (λ q. Doing) [ false ↦ hello d | true ↦ elim z as (λ q. Doing) [ true ↦ f d | false ↦ d ] ])
    go false z = own-then d (hello d) h (greets Goes goes d)
    go true true = i
    go true false = h

-- Nothing came out before a message is taken.
module _ (k : Clerk) where
  abbrev d : Doing
  d = doing k

  restarted : (e : ℕ) → Own (take_restarted e d)
  restarted e = go (nat_lt e (epoch d)) (nat_lt (epoch d) e)
    where
      go : (z y : Bool) → Own (elim z as (λ o. Doing) [ true ↦ d | false ↦ send_outstanding (claim (elim y as (λ o. Doing) [ true ↦ with_clerk (enter_epoch e) d | false ↦ d ])) ])
      go true y = tt
      go false true = let f = with_clerk (enter_epoch e) d in own-then f (send_outstanding (claim f)) tt (claims-all Goes goes f)
      go false false = own-then d (send_outstanding (claim d)) tt (claims-all Goes goes d)

  ended : (w : Window) → Own (take_ended w d)
  ended w = go (nat_le last_round d.clerk.age.round)
    where
      go : (y : Bool) → Own (elim y as (λ x. Doing) [ true ↦ spend counter.Round d | false ↦ hello (emit (out.Told (keys (log.lost w d.clerk.log))) (with_clerk (lose (log.lost w d.clerk.log)) d)) ])
      go true = tt
      go false =
          let f = emit (out.Told (keys (log.lost w d.clerk.log))) (with_clerk (lose (log.lost w d.clerk.log)) d) in
          own-then f (hello f) (tt, tt) (greets Goes goes f)

  taken-own : (m : Msg) → Own (taken m d)
  taken-own (Opened age s e) = go (not (has_session d.clerk) && same_age age d.clerk.age)
    where
      go : (z : Bool) → Own (elim z as (λ y. Doing) [ true ↦ send (Claim s e []) (with_clerk (λ k. record k { session = Some s; epoch = e }) d) | false ↦ d ])
      go true = (tt, tt)
      go false = tt
  taken-own (Grant s e x n m i) = within s e (with_cache (cache.take x m n i)) d tt tt
  taken-own (Recall s e x n to) = within s e (take_recall x n to) d tt (go (nat_lt n (cache.last x d.clerk.cache)))
    where
      go : (z : Bool) → Own (elim z as (λ y. Doing) [ true ↦ d | false ↦ keep_recall (record { obj = x; number = n; to = to }) (with_cache (mark_recall x to) d) ])
      go true = tt
      go false = tt
  taken-own (Kept s e b) = go (is_session s d.clerk.session)
    where
      go : (z : Bool) → Own (elim z as (λ y. Doing) [ true ↦ with_log (log.kept b) d | false ↦ d ])
      go true = tt
      go false = tt
  taken-own (Ids s e got n first) = within s e (take_ids got n first) d tt (go (got == d.clerk.got) (nat_le last_grants got))
    where
      go : (z y : Bool) → Own (elim z as (λ o. Doing) [ false ↦ d | true ↦ elim y as (λ o. Doing) [ true ↦ spend counter.Id d | false ↦ with_clerk (add_ids n first) d ] ])
      go false y = tt
      go true true = tt
      go true false = tt
  taken-own (NoRoom s e ask live reserved) = own-then d (take_no_room ask live reserved d) tt (no-room Goes goes ask live reserved d)
  taken-own (Ended s low mask) = or-greets s (take_ended (record { low = low; mask = mask })) d tt (ended (record { low = low; mask = mask }))
  taken-own (Restarted s e) = or-greets s (take_restarted e) d tt (restarted e)
  taken-own (OldBoot asked greatest) = go (same_age asked d.clerk.age)
    where
      go : (z : Bool) → Own (elim z as (λ y. Doing) [ true ↦ emit (out.OldBoot greatest) d | false ↦ d ])
      go true = (tt, tt)
      go false = tt
  taken-own _ = tt

-- Steps.

pub take-own : (m : Msg) (k : Clerk) → Own (take m k)
take-own m k = own-then (taken m (doing k)) (take m k) (taken-own k m) (settled Goes goes (taken m (doing k)))

pub begin-own : (cl : Call) (k : Clerk) → Own (begin cl k)
begin-own cl k = go (nat_le last_counter k.calls)
  where
    go : (z : Bool) → Own (elim z as (λ y. Doing) [ true ↦ spend counter.CallNo (doing k) | false ↦ settle (doing (add_call cl k)) ])
    go true = tt
    go false = own-then (doing (add_call cl k)) (settle (doing (add_call cl k))) tt (settled Goes goes (doing (add_call cl k)))

pub push-own : (n : ℕ) (k : Clerk) → Own (push n k)
push-own n k = go (nat_le k.log.first n)
  where
    go : (z : Bool) → Own (settle (elim z as (λ y. Doing) [ true ↦ keep_push n (doing k) | false ↦ doing k ]))
    go true = own-then (keep_push n (doing k)) (settle (keep_push n (doing k))) tt (settled Goes goes (keep_push n (doing k)))
    go false = own-then (doing k) (settle (doing k)) tt (settled Goes goes (doing k))

pub resend-own : (k : Clerk) → Own (resend k)
resend-own k = go (has_session k)
  where
    go : (z : Bool) → Own (elim z as (λ y. Doing) [ true ↦ send_outstanding (claim (doing k)) | false ↦ hello (doing k) ])
    go true = own-then (doing k) (send_outstanding (claim (doing k))) tt (claims-all Goes goes (doing k))
    go false = own-then (doing k) (hello (doing k)) tt (greets Goes goes (doing k))
