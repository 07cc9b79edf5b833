-- The server ends a session: the facts about tokens and about sessions, behind the record and its message.
use Rattle.std.proofs.Common.{◌≡◌, refl, sym, ap, subst, ◌∙◌, ◌⊎◌, arith, ℕ, zero, suc, Bool, true, false, not, ◌&&◌, cond, T, ◌≤◌, ◌<◌, List, [], ◌∷◌, ◌++◌}
use Rattle.std.specs.Prelude.{◌==◌, Option, None, Some, is_some, Ok, Err, Result}
use Rattle.std.proofs.lemmas.Bool.{and_parts}
use Rattle.std.proofs.lemmas.List.{append_assoc}
use Rattle.std.proofs.Common.{length-set}
use Rattle.ec_base.specs.Tables.{at}
use Rattle.ec_base.specs.declared.ids.Age.{Age}
use Rattle.ec_base.specs.declared.ids.Hold.{Hold}
use Rattle.ec_base.specs.declared.ids.Hold.TheVariants.{Free, Read, Write}
use Rattle.ec_volume.specs.Update.{has_operand, operands}
use Rattle.ec_volume.specs.Volume.{after}
use Rattle.ec_volume.specs.declared.image.Image.{Image}
use Rattle.ec_sessions.specs.Windows.{has}
use Rattle.ec_history.specs.History.{Op, Each, updates}
use Rattle.ec_base.specs.Ages.{is_older}
use Rattle.ec_sessions.specs.Slots.{with_slot, ended}
use Rattle.ec_sessions.specs.declared.slot.Slot.{Slot}
use Rattle.ec_base.specs.Holds.{rank, is_write}
use Rattle.ec_wire.specs.Messages.{is_sound}
use Rattle.ec_wire.specs.declared.msg.Msg.{Msg}
use Rattle.ec_wire.specs.declared.msg.Msg.TheVariants.{Kept, Ended}
use Rattle.ec_cache.specs.Cache.{last}
use Rattle.ec_cache.specs.declared.state.Held.{Held}
use Rattle.ec_durable.specs.Durable.{step, slot, is_session}
use Rattle.ec_durable.specs.declared.state.Durable.{Durable}
use Rattle.ec_durable.specs.declared.record.Record.TheVariants as record_of
use Rattle.ec_durable.specs.declared.record.RecordFault.{RecordFault}
use Rattle.ec_durable.specs.declared.record.RecordFault.TheVariants.{NoSession}
use Rattle.ec_protocol.specs.Server.{Serving, finish, forget, tell_ended}
use Rattle.ec_coherence.specs.System.{System, Ghost, Eff, clerk_in, is_open, is_of, seen_ops, open_in}
use Rattle.ec_coherence.specs.Sessions as sessions
use Rattle.ec_coherence.specs.Tokens.{Below, IsWrite, eff, eff_hold, view, side, side_in, tables_of, TokensAgree}
use Rattle.ec_coherence.specs.Log.{HasWrites}
use Rattle.ec_coherence.specs.Steps.{serving_in, end_session, Under}
use Rattle.ec_coherence.proofs.ForBatches.Ended.{ended-agrees}
use Rattle.ec_coherence.proofs.ForServer.Said.{said-agrees}
use Rattle.ec_coherence.proofs.ForServer.Settled.{passing, each-member}
use Rattle.ec_coherence.proofs.ForServer.SlotLaws.{open-at, open-of, in-range, slot-changed, ended-other, ended-own}
use Rattle.ec_coherence.proofs.ForServer.Tables.{each-map, same_some, by-session}
use Rattle.ec_base.proofs.Numbers.{same-self as same, equal}
use Rattle.ec_base.proofs.Bools.{not-both as refutes, is-true}
use Rattle.ec_history.proofs.HistoryLemmas.{each-more as each-append}

module _ (g : System) (γ : Ghost) (t : Serving) (u : Under g t γ) (c : ℕ) (sl : Slot) (in_slot : slot t.server.durable c ≡ Some sl) (opened : T sl.is_open) where
  abbrev here : System
  here = serving_in t γ g

  abbrev s : ℕ
  s = sl.session

  abbrev pub sm : Slot
  sm = record sl { is_open = false; unspent = [] }

  abbrev pub d' : Durable
  d' = record (t.server.durable) { sessions = with_slot c (Some sm) t.server.durable.sessions }

  abbrev pub ended_step : Serving
  ended_step = record t { server = record (forget s t.server) { durable = d' }; rec = Some (record_of.End c s) }

  abbrev pub γ' : Ghost
  γ' = end_session here s γ

  steps : step (record_of.End c s) t.server.durable ≡ Ok d'
  steps = ap (λ o. elim (is_session s o) as (λ z. Result Durable RecordFault) [
    | false ↦ Err NoSession
    | true ↦ Ok (record (t.server.durable) { sessions = with_slot c (ended o) t.server.durable.sessions })
  ]) in_slot ∙ ap (λ b. elim b as (λ z. Result Durable RecordFault) [
    | false ↦ Err NoSession
    | true ↦ Ok (record (t.server.durable) { sessions = with_slot c (ended (Some sl)) t.server.durable.sessions })
  ]) (both sl.is_open s opened) ∙ ap (λ b. Ok (record (t.server.durable) { sessions = with_slot c (Some (cond b (record sl { is_open = false; unspent = [] }) sl)) t.server.durable.sessions })) (is-true sl.is_open opened)
    where
      both : (a : Bool) (n : ℕ) → T a → (a && (n == n)) ≡ true
      both true n o = same n
      both false n o = absurd o

  -- the record is committed, and the message sent
  pub finish-is : finish c sl t ≡ tell_ended c sl ended_step
  finish-is = ap (λ r. elim r as (λ z. Serving) [
    | Ok d ↦ tell_ended c sl (record t { server = record (forget s t.server) { durable = d }; rec = Some (record_of.End c s) })
    | Err f ↦ t
  ]) steps

  agree : TokensAgree (view here)
  agree = u.invariant.tokens

  known : sessions.SessionsAgree here
  known = u.invariant.sessions

  is-open : T (is_open here s)
  is-open = open-at t.server.durable.sessions c s sl in_slot opened refl

  owner-of : (d : ℕ) (sn : Slot) → slot t.server.durable d ≡ Some sn → γ.owner sn.session ≡ Some (d, sn.age)
  owner-of d sn p = (known.slots d sn p).2

  clerk-of : (o q : ℕ × Age) → Some o ≡ Some q → o.0 ≡ q.0
  clerk-of o q p = ap (λ z. z.0) (same_some p)

  distinct : (d : ℕ) (sn : Slot) → slot t.server.durable d ≡ Some sn → sn.session ≡ s → d ≡ c
  distinct d sn p e = clerk-of (d, sn.age) (c, sl.age) (sym (owner-of d sn p) ∙ ap γ.owner e ∙ owner-of c sl in_slot)

  -- an operation that is lost has Write tokens of the session
  writes : (o : Op) → HasWrites here o → T (is_of (γ.owner s) o) → (x : ℕ) → T (has_operand x o.update) → T (is_write (eff_hold (eff (view here) s x)))
  writes o h own x m =
      let r = open-of t.server.durable.sessions h.session h.is_open in
      let mine : c ≡ o.clerk = start c (sl.age).boot o (subst (λ z. T (is_of z o)) (owner-of c sl in_slot) own) in
      let theirs : r.0 ≡ o.clerk = start r.0 ((r.1).age).boot o (subst (λ z. T (is_of z o)) (ap γ.owner (sym r.4) ∙ owner-of r.0 r.1 r.2) h.own) in
      let slots_same : Some r.1 ≡ Some sl = sym r.2 ∙ ap (λ z. slot t.server.durable z) (theirs ∙ sym mine) ∙ in_slot in
      let it : h.session ≡ s = sym r.4 ∙ ap (λ z. z.session) (same_some slots_same) in
      held (at x h.clerk.cache.held) (eff (view here) s x) (agree.below s x (side h.clerk) (ap side_in (subst (λ z. clerk_in here z ≡ Some h.clerk) it h.in_place))) (each-member (λ y. IsWrite (at y h.clerk.cache.held)) x (operands o.update) h.writes m)
    where
      start : (d b : ℕ) (o : Op) → T (is_of (Some (d, record { boot = b; round = 0 })) o) → d ≡ o.clerk
      start d b o q = equal d o.clerk (and_parts (d == o.clerk) (b == o.boot) (is-true _ q)).0

      held : (z : Option Held) (f : Option Eff) → Below h.clerk.epoch (last x h.clerk.cache) z f → IsWrite z → T (is_write (eff_hold f))
      held None f b w = absurd w
      held (Some y) None b w = absurd b
      held (Some y) (Some f) b w = up y.hold f.hold b.0 w
        where
          up : (a b : Hold) → rank a ≤ rank b → T (is_write a) → T (is_write b)
          up Write Write l w = tt
          up Write Read l w = absurd (omega arith)
          up Write Free l w = absurd (omega arith)
          up Read b l w = absurd w
          up Free b l w = absurd w

  unlost : (x : ℕ) → T (not (is_write (eff_hold (eff (view here) s x)))) → (ks : List Op) → Each (λ o. T (not (γ.is_durable o)) → HasWrites here o) ks
      → Each (λ o. T (not (not (is_of (γ.owner s) o && not (γ.is_durable o)))) → T (has_operand x o.update) → ⊥) ks
  unlost x n [] f = tt
  unlost x n (o ∷ ks) f = ((λ p m. let q = parts (is_of (γ.owner s) o) (not (γ.is_durable o)) p in refutes (is_write (eff_hold (eff (view here) s x))) (writes o (f.0 q.1) q.0 x m) n), unlost x n ks f.1)
    where
      parts : (a b : Bool) → T (not (not (a && b))) → T a × T b
      parts true true p = (tt, tt)
      parts true false p = absurd p
      parts false b p = absurd p

  abbrev sn : ℕ → ℕ → Image
  sn r x = after g.origin (updates (seen_ops (γ'.frozen r) γ'.kept)) x

  not-frozen : γ.frozen s ≡ None
  not-frozen = u.invariant.stops.open_sessions s is-open

  own-images : (x : ℕ) → sn s x ≡ (view here).seen s x
  own-images x = ap (λ b. after g.origin (updates (seen_ops (elim b as (λ z. Option (List Op)) [ true ↦ Some γ.kept | false ↦ γ.frozen s ]) γ'.kept)) x) (same s) ∙ sym (ap (λ z. after g.origin (updates (seen_ops z γ.kept)) x) not-frozen)

  other-frozen : (r : ℕ) → (r == s) ≡ false → γ'.frozen r ≡ γ.frozen r
  other-frozen r d = ap (λ b. elim b as (λ z. Option (List Op)) [ true ↦ Some γ.kept | false ↦ γ.frozen r ]) d

  other-images : (r x : ℕ) → (r == s) ≡ false → T (not (is_write (eff_hold (eff (view here) s x)))) → sn r x ≡ (view here).seen r x
  other-images r x d n = ap (λ z. after g.origin (updates (seen_ops z γ'.kept)) x) (other-frozen r d) ∙ go (γ.frozen r)
    where
      go : (o : Option (List Op)) → after g.origin (updates (seen_ops o γ'.kept)) x ≡ after g.origin (updates (seen_ops o γ.kept)) x
      go None = passing x (λ k. not (is_of (γ.owner s) k && not (γ.is_durable k))) γ.kept (g.origin x) (unlost x n γ.kept u.invariant.logs.writes)
      go (Some ks) = refl

  frozen-images : (r x : ℕ) → T (γ.taken r) → T (not (is_open here r)) → sn r x ≡ (view here).seen r x
  frozen-images r x k o = ap (λ z. after g.origin (updates (seen_ops z γ'.kept)) x) (other-frozen r off) ∙ go (γ.frozen r) (u.invariant.stops.ended r (known.taken r k) o)
    where
      off : (r == s) ≡ false
      off = by (r == s) refl
        where
          by : (b : Bool) → (r == s) ≡ b → b ≡ false
          by true e = absurd (refutes (is_open here s) is-open (subst (λ z. T (not (is_open here z))) (equal r s e) o))
          by false e = refl

      go : (o : Option (List Op)) → T (is_some o) → after g.origin (updates (seen_ops o γ'.kept)) x ≡ after g.origin (updates (seen_ops o γ.kept)) x
      go None f = absurd f
      go (Some ks) f = refl

  pub ended-tokens : TokensAgree (view (serving_in ended_step γ' g))
  ended-tokens = ended-agrees (view here) (tables_of t.server) s (λ r. open_in d'.sessions r) sn agree is-open (ended-own t.server.durable.sessions c sl sm in_slot distinct tt)
      (λ r d. ended-other t.server.durable.sessions c sl sm in_slot distinct tt r d) own-images frozen-images other-images

  -- family B behind the end
  pub finish-tokens : TokensAgree (view (serving_in (tell_ended c sl ended_step) γ' g))
  finish-tokens = subst (λ p. TokensAgree (record (view (serving_in ended_step γ' g)) { pool = p })) (append_assoc g.pool t.sent ((c, Ended s sl.window.low sl.window.mask) ∷ []))
      (said-agrees (view (serving_in ended_step γ' g)) (tables_of (forget s t.server)) c (Ended s sl.window.low sl.window.mask) ended-tokens tt)

  -- family A behind the end

  abbrev pub later : System
  later = serving_in (tell_ended c sl ended_step) γ' g

  pub slot-now : (e : ℕ) → slot d' e ≡ cond (e == c) (Some sm) (slot t.server.durable e)
  slot-now e = slot-changed t.server.durable.sessions c e (Some sm) (in-range t.server.durable.sessions c sl in_slot)

  -- each slot is as it was, but for what ended
  from-slot : (P : ℕ → Slot → Type 0) → P c sm → ((e : ℕ) (so : Slot) → slot t.server.durable e ≡ Some so → P e so) → (e : ℕ) (so : Slot) → slot d' e ≡ Some so → P e so
  from-slot P a b e so p = go (e == c) refl (sym (slot-now e) ∙ p)
    where
      go : (z : Bool) → (e == c) ≡ z → cond z (Some sm) (slot t.server.durable e) ≡ Some so → P e so
      go true q r = subst (λ i. P i so) (sym (equal e c q)) (subst (P c) (same_some r) a)
      go false q r = b e so r

  -- what stood of a slot stands of what is there now
  to-slot : (P : Slot → Type 0) → (P sl → P sm) → (e : ℕ) (so : Slot) → slot t.server.durable e ≡ Some so → P so → (sp : Slot) × (slot d' e ≡ Some sp) × P sp
  to-slot P f e so p q = go (e == c) refl
    where
      go : (z : Bool) → (e == c) ≡ z → (sp : Slot) × (slot d' e ≡ Some sp) × P sp
      go true r = (sm, slot-now e ∙ ap (λ b. cond b (Some sm) (slot t.server.durable e)) r, f (subst P (same_some (sym p ∙ ap (slot t.server.durable) (equal e c r) ∙ in_slot)) q))
      go false r = (so, slot-now e ∙ ap (λ b. cond b (Some sm) (slot t.server.durable e)) r ∙ p, q)

  message-kept : (a : ℕ) (m : Msg) → sessions.Fits here a m → sessions.Fits later a m
  message-kept a (Kept r e b) q = (
    q.0,
    λ so p f. from-slot (λ i so. i ≡ a → so.session ≡ r → T (has so.window b)) (λ i f. q.1 sl (subst (λ z. slot t.server.durable z ≡ Some sl) i in_slot) f)
        (λ i so p j f. q.1 so (subst (λ z. slot t.server.durable z ≡ Some so) j p) f) a so p refl f,
  )
  message-kept a (Ended r low mask) q = (
    q.0,
    shut,
    λ so p f. from-slot (λ i so. i ≡ a → so.session ≡ r → (so.window.low ≡ low) × (so.window.mask ≡ mask)) (λ i f. q.2 sl (subst (λ z. slot t.server.durable z ≡ Some sl) i in_slot) f)
        (λ i so p j f. q.2 so (subst (λ z. slot t.server.durable z ≡ Some so) j p) f) a so p refl f,
  )
    where
      shut : T (not (open_in d'.sessions r))
      shut = by-session s r (λ z. T (not (is_open here z)) → T (not (open_in d'.sessions z))) (λ n. ended-own t.server.durable.sessions c sl sm in_slot distinct tt)
          (λ d n. subst (λ b. T (not b)) (sym (ended-other t.server.durable.sessions c sl sm in_slot distinct tt r d)) n) q.1
  message-kept a _ q = q

  -- behind the record alone
  pub ended-sessions : sessions.SessionsAgree (serving_in ended_step γ' g)
  ended-sessions = let a = known in record {
    sixteen = length-set t.server.durable.sessions c (Some sm) ∙ a.sixteen;
    next = a.next;
    slots = from-slot (λ e so. (suc zero ≤ so.session) × (so.session < t.server.durable.next_session) × (γ.owner so.session ≡ Some (e, so.age))) (a.slots c sl in_slot) a.slots;
    owned = λ r o p. let q = a.owned r o p in let z = to-slot (λ so. (so.session ≡ r) ⊎ T (is_older o.1 so.age)) (λ f. f) o.0 q.2 q.3 q.4 in (q.0, q.1, z.0, z.1, z.2);
    once = a.once;
    taken = a.taken;
    told = a.told;
    starts = a.starts;
    rounds = a.rounds;
    running = a.running;
    in_session = a.in_session;
    without = a.without;
    current = λ d b r k p q f. let o = a.current d b r k p q f in let z = to-slot (λ so. so.session ≡ r) (λ e. e) d o.0 o.1 o.2 in (z.0, z.1, z.2);
    sound = a.sound;
    messages = each-map (λ m. sessions.Fits here m.0 m.1) (λ m. sessions.Fits (serving_in ended_step γ' g) m.0 m.1) (g.pool ++ t.sent) (λ m. message-kept m.0 m.1) a.messages;
  }

  pub finish-sessions : sessions.SessionsAgree later
  finish-sessions = let a = known in record {
    sixteen = length-set t.server.durable.sessions c (Some sm) ∙ a.sixteen;
    next = a.next;
    slots = from-slot (λ e so. (suc zero ≤ so.session) × (so.session < t.server.durable.next_session) × (γ.owner so.session ≡ Some (e, so.age))) (a.slots c sl in_slot) a.slots;
    owned = λ r o p. let q = a.owned r o p in let z = to-slot (λ so. (so.session ≡ r) ⊎ T (is_older o.1 so.age)) (λ f. f) o.0 q.2 q.3 q.4 in (q.0, q.1, z.0, z.1, z.2);
    once = a.once;
    taken = a.taken;
    told = a.told;
    starts = a.starts;
    rounds = a.rounds;
    running = a.running;
    in_session = a.in_session;
    without = a.without;
    current = λ d b r k p q f. let o = a.current d b r k p q f in let z = to-slot (λ so. so.session ≡ r) (λ e. e) d o.0 o.1 o.2 in (z.0, z.1, z.2);
    sound = subst (Each (λ m. T (is_sound m.1))) (append_assoc g.pool t.sent ((c, Ended s sl.window.low sl.window.mask) ∷ [])) (each-append (λ m. T (is_sound m.1)) (g.pool ++ t.sent) ((c, Ended s sl.window.low sl.window.mask) ∷ []) a.sound (tt, tt));
    messages = subst (Each (λ m. sessions.Fits later m.0 m.1)) (append_assoc g.pool t.sent ((c, Ended s sl.window.low sl.window.mask) ∷ []))
        (each-append (λ m. sessions.Fits later m.0 m.1) (g.pool ++ t.sent) ((c, Ended s sl.window.low sl.window.mask) ∷ [])
        (each-map (λ m. sessions.Fits here m.0 m.1) (λ m. sessions.Fits later m.0 m.1) (g.pool ++ t.sent) (λ m. message-kept m.0 m.1) a.messages)
        (((a.slots c sl in_slot).1, ended-own t.server.durable.sessions c sl sm in_slot distinct tt, λ so p f. same-window so (sym (slot-now c ∙ ap (λ b. cond b (Some sm) (slot t.server.durable c)) (same c)) ∙ p)), tt));
  }
    where
      same-window : (so : Slot) → Some sm ≡ Some so → (so.window.low ≡ sl.window.low) × (so.window.mask ≡ sl.window.mask)
      same-window so e = let q = same_some e in (ap (λ z. z.window.low) (sym q), ap (λ z. z.window.mask) (sym q))
