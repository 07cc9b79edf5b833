-- Counters stay below their ends.
use Rattle.std.proofs.Common.{◌≡◌, refl, sym, ap, subst, ◌∙◌, arith, ◌≤◌, ◌<◌, ◌+◌, ◌*◌, ℕ, suc, zero, Bool, true, false, ◌==◌, T, length, List, [], ◌∷◌, ◌++◌, Option, Some, None}
use Rattle.std.specs.Prelude.{is_some}
use Rattle.ec_base.specs.Limits.{last_counter}
use Rattle.ec_base.specs.Tables.{at, keys}
use Rattle.ec_volume.specs.Update.{member}
use Rattle.ec_history.specs.History.{updates}
use Rattle.ec_sessions.specs.Limits.{ids_per_grant, last_first_id, last_grants}
use Rattle.ec_sessions.specs.Slots.{all_unspent, is_open, run}
use Rattle.ec_sessions.specs.declared.slot.Slot.{Slot}
use Rattle.ec_wire.specs.declared.msg.Msg.{Msg}
use Rattle.ec_wire.specs.declared.msg.Msg.TheVariants as msg
use Rattle.ec_durable.specs.Durable.{slot}
use Rattle.ec_durable.specs.WellFormed.{IsInOrder}
use Rattle.ec_log.specs.Log as log
use Rattle.ec_machine_laws.proofs.Once.{fewer}
use Rattle.ec_protocol.specs.declared.clerk.Clerk.{Clerk}
use Rattle.ec_protocol.specs.declared.world.World.{World}
use Rattle.ec_coherence.specs.Invariant.{Invariant}
use Rattle.ec_coherence.specs.Log.{IdsAgree, made_by}
use Rattle.ec_coherence.specs.System.{System, clerk_in, undurable}
use Rattle.ec_coherence.specs.Tokens.{side, side_in}
use Rattle.ec_coherence.proofs.ForBatches.Ids.{in-back, in-front}
use Rattle.ec_coherence.proofs.ForServer.Lists.{each-at}
use Rattle.ec_coherence.proofs.ForServer.Tables.{same_some}
use Rattle.ec_quiet.specs.Phases.{Phase, Greets, Opens, Claims, Wants, Recalls, Flushes, Keeps, Grants, Asks, Gives, Refuses, Saves, Saved, Ends, InPhase, IsWorking}
use Rattle.ec_quiet.specs.Scenes.{IsScene, Scene}
use Rattle.ec_quiet.specs.Works.{Work}
use Rattle.ec_quiet.specs.Tries.{HasCounters}
use Rattle.ec_complete.specs.OfAgreedLines.Worlds.{IsSeen}
use Rattle.ec_complete.proofs.OfAgreedLines.Seen.{clerk-there, scenes-seen}
use Rattle.ec_complete.proofs.ForLines.Pinned.{in-store, once-each, stored-few, stored_ids}
use Rattle.ec_complete.specs.OfAgreedLines.Counting.{IsCounted}
use Rattle.ec_complete.specs.Lines.{IsOnLine, IsSpare}
use Rattle.ec_complete.proofs.ForLines.Standing.{InSlot, in-slot, other}
use Rattle.ec_complete.specs.Spare.{IsBelow, IsFarBelow, NextIsSpare, granted_below, max_calls, max_given, open_grants}
use Rattle.ec_quiet.specs.OfDeliveries.Coming.{HasNext}
use Rattle.ec_base.proofs.Numbers.{equal, not-above, not-at}
use Rattle.ec_base.proofs.Bools.{is-true, holds-true as holds}

some-wait : {A : Type 0} (xs : List A) → (xs ≡ [] → ⊥) → 1 ≤ length xs
some-wait [] f = absurd (f refl)
some-wait (x ∷ xs) f = omega arith

module _ (number session first calls : ℕ) (j : Work) (w : World) (sc : Scene) (g : System) (p : Phase) (b : IsBelow number session first calls w sc) (on : IsOnLine j w sc g) (scene : IsScene w sc) (ip : InPhase j sc p) where
  seen : IsSeen g sc
  seen = scenes-seen w g sc on.stands scene

  inv : Invariant g
  inv = on.whole.all.0

  counted : (c : ℕ) (k : Clerk) → at c sc.clerks ≡ Some k → IsCounted calls w.sent k
  counted c k e = b.clerks c k (ap (at c) scene.clerks ∙ e)

  enough : max_calls + 1 ≤ last_counter
  enough = omega arith

  has-counters : (c : ℕ) (k : Clerk) → at c sc.clerks ≡ Some k → HasCounters k
  has-counters c k e =
      let q = counted c k e in
      record {
        asks = not-at last_counter k.asks (below-end k.asks k.log.next_batch number w.sent last_counter q.sends q.batch b.numbers);
        ops = not-above last_counter k.log.next (through k.log.next (length k.waiting) k.calls calls max_calls last_counter q.ops q.made b.few enough);
        batches = not-above last_counter k.log.next_batch (up-to-end k.asks k.log.next_batch number w.sent last_counter q.sends b.numbers);
      }
    where
      below-end : (asks batch number sent top : ℕ) → asks + batch ≤ sent + 1 → 1 ≤ batch → number + sent < top → asks < top
      below-end asks batch number sent top l m n = omega (arith, l, m, n)

      up-to-end : (asks batch number sent top : ℕ) → asks + batch ≤ sent + 1 → number + sent < top → batch ≤ top
      up-to-end asks batch number sent top l n = omega (arith, l, n)

      through : (next waits made calls most top : ℕ) → next + waits ≤ made + 1 → made ≤ calls → calls ≤ most → most + 1 ≤ top → next ≤ top
      through next waits made calls most top a b c d = omega (arith, a, b, c, d)

  not-full : (k : Clerk) → at j.clerk sc.clerks ≡ Some k → (k.waiting ≡ [] → ⊥) → log.is_full k.log ≡ false
  not-full k e f = let q = counted j.clerk k e in not-at log.max_undurable (length k.log.undurable) (few (length k.log.undurable) k.log.next (length k.waiting) k.calls calls q.undurable q.ops (some-wait k.waiting f) q.made b.few)
    where
      few : (ops next waits made calls : ℕ) → ops < next → next + waits ≤ made + 1 → 1 ≤ waits → made ≤ calls → calls ≤ 65536 → ops < 65536
      few ops next waits made calls a b c d e = omega (arith, a, b, c, d, e)

  -- How often a clerk in its session was granted ids.
  module _ (c : ℕ) (k : Clerk) (sl : Slot) (there : at c sc.clerks ≡ Some k) (here : slot sc.server.durable c ≡ Some sl) (inside : k.session ≡ Some sl.session) where
    place : InSlot sc.server c sl.session
    place = in-slot j sc p ip c k sl.session there inside

    opened : T sl.is_open
    opened = holds sl.is_open (ap (λ z. z.is_open) (same_some (sym here ∙ place.here)) ∙ place.opened)

    start : (a : ℕ) × (g.clerks c a ≡ Some k)
    start = seen.clerks c k there

    in-it : clerk_in g sl.session ≡ Some k
    in-it = clerk-there g inv.sessions c start.0 sl.session k start.1 inside

    at-slot : slot g.durable c ≡ Some sl
    at-slot = ap (λ d. slot d c) seen.durable ∙ here

    ids : IdsAgree k sl (g.ghost.grants sl.session) (g.ghost.first sl.session) (undurable g.ghost sl.session)
    ids = (inv.logs.logs sl.session c sl at-slot refl opened k in-it).ids

    order : IsInOrder g.durable
    order = subst IsInOrder (sym seen.durable) on.order

    few-ids : length k.ids ≤ 1024
    few-ids = up-to (length k.ids) (length (stored_ids g.durable)) (fewer k.ids (stored_ids g.durable) (once-each k.ids (on.whole.frees.once sl.session k in-it)) stored) (stored-few g.durable order)
      where
        up-to : (m n : ℕ) → m ≤ n → n ≤ 1024 → m ≤ 1024
        up-to m n p q = omega (arith, p, q)

        stored : (x : ℕ) → T (member x k.ids) → T (member x (stored_ids g.durable))
        stored x m = in-back x (keys g.durable.volume) (all_unspent g.durable.sessions) (in-store x c sl g.durable.sessions at-slot
            (each-at (λ y. T (member y sl.unspent)) x (k.ids ++ made_by (updates (undurable g.ghost sl.session))) ids.free (in-front x k.ids (made_by (updates (undurable g.ghost sl.session))) m)))

    took : g.ghost.grants sl.session ≤ k.got + 1
    took = (inv.tokens.got sl.session (side k) (ap side_in in-it)).3

    pub few-grants : sl.grants ≤ 4161
    few-grants = let q = counted c k there in small sl.grants (g.ghost.grants sl.session) k.got (length k.ids) k.log.next (length k.waiting) k.calls calls ids.granted took q.ids few-ids q.ops q.made b.few
      where
        small : (grants all got ids next waits made calls : ℕ) → grants ≡ all → all ≤ got + 1 → 16 * got ≤ ids + next → ids ≤ 1024 → next + waits ≤ made + 1 → made ≤ calls → calls ≤ 65536 → grants ≤ 4161
        small grants all got ids next waits made calls a b c d e f h = omega (arith, a, b, c, d, e, f, h)

  -- So it is with each slot.

  -- where the line's clerk works in its session
  works : (xs : List ℕ) (a : Slot) (k : Clerk) → IsWorking xs j sc a k → (sl : Slot) → slot sc.server.durable j.clerk ≡ Some sl → sl.grants ≤ 4161
  works xs a k i sl here = few-grants j.clerk k sl i.there here (i.inside.session ∙ ap (λ z. Some z.session) (same_some (sym i.inside.there ∙ here)))

  own-few : (p : Phase) → InPhase j sc p → (sl : Slot) → slot sc.server.durable j.clerk ≡ Some sl → T sl.is_open → sl.grants ≤ 4161
  own-few (Greets age) ip sl here opened = absurd (closed (sym ip.facts.2 ∙ ap is_open here ∙ is-true sl.is_open opened))
    where
      closed : false ≡ true → ⊥
      closed e = cc
  own-few (Opens age) ip sl here opened = none sl.grants (ap (λ z. z.grants) (same_some (sym here ∙ ip.facts.3)) ∙ ip.facts.6)
    where
      none : (n : ℕ) → n ≡ 0 → n ≤ 4161
      none n e = omega (arith, e)
  own-few (Claims None) ip sl here opened = let f = ip.facts.1 in works [] f.slot f.clerk f.working sl here
  own-few (Claims (Some q)) ip sl here opened = let f = ip.facts.1 in works [] f.slot f.clerk f.working sl here
  own-few (Wants x h n) ip sl here opened = let f = ip.facts.1 in works [] f.slot f.clerk f.working sl here
  own-few (Recalls x h rs bs) ip sl here opened = let f = (ip.facts.0).wanting in works [] f.slot f.clerk f.working sl here
  own-few (Flushes x h r b ops more) ip sl here opened = let f = (ip.facts.0).wanting in works [] f.slot f.clerk f.working sl here
  own-few (Keeps x h r b more) ip sl here opened = let f = (ip.facts.0).wanting in works [] f.slot f.clerk f.working sl here
  own-few (Grants x h n) ip sl here opened = let f = ip.facts.3 in works (x ∷ []) f.slot f.clerk f.working sl here
  own-few (Asks again got ask) ip sl here opened = let f = ip.facts.1 in works [] f.slot f.clerk f.working sl here
  own-few (Gives got n first) ip sl here opened = let f = ip.facts.3 in works (run first ids_per_grant) f.slot f.clerk f.working sl here
  own-few (Refuses again ask live reserved) ip sl here opened = let f = ip.facts.1 in works [] f.slot f.clerk f.working sl here
  own-few (Saves n ops more) ip sl here opened = let f = ip.facts.1 in works [] f.slot f.clerk f.working sl here
  own-few (Saved n more) ip sl here opened = let f = ip.facts.1 in works [] f.slot f.clerk f.working sl here
  own-few Ends ip sl here opened = let f = ip.facts.1 in works [] f.slot f.clerk f.working sl here

  -- So it is with each slot.

  slot-few : (c : ℕ) (sl : Slot) → slot sc.server.durable c ≡ Some sl → T sl.is_open → sl.grants ≤ 4161
  slot-few c sl here opened = by-own (c == j.clerk) refl
    where
      by-clerk : (c == j.clerk) ≡ false → (o : Option Clerk) → at c sc.clerks ≡ o → T (is_some o) → sl.grants ≤ 4161
      by-clerk e None f t = absurd t
      by-clerk e (Some k) f t = let o = other j sc p ip c k e f in few-grants c k sl f here (o.session ∙ ap (λ z. Some z.session) (same_some (sym o.here ∙ here)))

      by-own : (z : Bool) → (c == j.clerk) ≡ z → sl.grants ≤ 4161
      by-own true e = own-few p ip sl (ap (slot sc.server.durable) (sym (equal c j.clerk e)) ∙ here) opened
      by-own false e = by-clerk e (at c sc.clerks) refl (ip.orderly.run c sl here (is-true sl.is_open opened))

  each-few : (c : ℕ) → open_grants (slot sc.server.durable c) ≤ 4161
  each-few c = by (slot sc.server.durable c) refl
    where
      by-open : (sl : Slot) → slot sc.server.durable c ≡ Some sl → (z : Bool) → sl.is_open ≡ z → elim z as (λ y. ℕ) [ true ↦ sl.grants | false ↦ 0 ] ≤ 4161
      by-open sl e true f = slot-few c sl e (holds sl.is_open f)
      by-open sl e false f = omega arith

      by : (o : Option Slot) → slot sc.server.durable c ≡ o → open_grants o ≤ 4161
      by None e = omega arith
      by (Some sl) e = by-open sl e sl.is_open refl

  all-few : (n : ℕ) → granted_below n sc.server.durable ≤ n * 4161
  all-few zero = omega arith
  all-few (suc n) = omega (arith, each-few n, all-few n)

  ids-left : first + max_given ≤ last_first_id → sc.server.durable.next_id ≤ last_first_id
  ids-left firsts = within sc.server.durable.next_id first (granted_below 16 sc.server.durable) last_first_id b.ids (all-few 16) firsts
    where
      within : (next first all last : ℕ) → next ≤ first + 16 * all → all ≤ 16 * 4161 → first + 1065216 ≤ last → next ≤ last
      within next first all last a b c = omega (arith, a, b, c)

  pub is-spare : IsSpare j sc
  is-spare = record {
    number = not-at last_counter sc.server.number (below sc.server.number (number + w.sent) last_counter (b.server sc.server scene.server).0 b.numbers);
    grants = λ k sl there here inside. not-at last_grants sl.grants (few sl.grants (few-grants j.clerk k sl there here inside));
    clerks = has-counters;
    small = not-full;
  }
    where
      few : (n : ℕ) → n ≤ 4161 → n < 4294967295
      few n l = omega (arith, l)

      below : (a m top : ℕ) → a ≤ m → m < top → a < top
      below a m top l n = omega (arith, l, n)

  -- the durable counters
  pub has-next : IsFarBelow session first w → (m : Msg) → HasNext m sc.server
  has-next far (msg.Hello from age) = not-at last_counter sc.server.durable.next_session (below sc.server.durable.next_session (session + w.sent) last_counter (b.server sc.server scene.server).1 far.sessions)
    where
      below : (a m top : ℕ) → a ≤ m → m < top → a < top
      below a m top l n = omega (arith, l, n)
  has-next far (msg.Room ss e got ask) = λ room. not-above last_first_id sc.server.durable.next_id (ids-left far.firsts)
  has-next far (msg.Want ss e x h n) = tt
  has-next far (msg.Back ss e x n h) = tt
  has-next far (msg.Flush ss e n ops) = tt
  has-next far (msg.Claim ss e list) = tt
  has-next far (msg.Bye ss e) = tt
  has-next far (msg.Opened age ss e) = tt
  has-next far (msg.Grant ss e x n h i) = tt
  has-next far (msg.Recall ss e x n h) = tt
  has-next far (msg.Kept ss e n) = tt
  has-next far (msg.Ids ss e got n x) = tt
  has-next far (msg.NoRoom ss e ask live reserved) = tt
  has-next far (msg.Ended ss low mask) = tt
  has-next far (msg.Restarted ss e) = tt
  has-next far (msg.OldBoot a x) = tt

pub counters-spare : (number session first calls : ℕ) (j : Work) (w : World) (sc : Scene) (g : System) (p : Phase) → IsBelow number session first calls w sc → IsOnLine j w sc g → IsScene w sc → InPhase j sc p → IsSpare j sc
counters-spare number session first calls j w sc g p b on scene ip = is-spare number session first calls j w sc g p b on scene ip

pub next-spare : NextIsSpare
next-spare number session first calls j w sc g p b far on scene ip m = has-next number session first calls j w sc g p b on scene ip far m
