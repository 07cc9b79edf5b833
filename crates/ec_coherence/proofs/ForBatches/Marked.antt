-- An open slot gets another window or other ids (records of batches and of ids): the facts about sessions, and which sessions are open.
use Rattle.std.proofs.Common.{◌≡◌, refl, sym, ap, subst, ◌∙◌, ◌⊎◌, inl, inr, ℕ, zero, suc, Bool, true, false, not, cond, T, ◌≤◌, ◌<◌, ◌++◌, length-set}
use Rattle.std.specs.Prelude.{◌==◌, Some}
use Rattle.ec_base.specs.Tables.{Table}
use Rattle.ec_volume.specs.declared.image.Image.{Image}
use Rattle.ec_base.specs.Ages.{is_older}
use Rattle.ec_sessions.specs.Slots.{with_slot}
use Rattle.ec_sessions.specs.Windows.{has}
use Rattle.ec_sessions.specs.declared.slot.Slot.{Slot}
use Rattle.ec_wire.specs.declared.msg.Msg.{Msg}
use Rattle.ec_wire.specs.declared.msg.Msg.TheVariants.{Kept, Ended}
use Rattle.ec_durable.specs.Durable.{slot}
use Rattle.ec_durable.specs.declared.state.Durable.{Durable}
use Rattle.ec_durable.specs.declared.record.Record.{Record}
use Rattle.ec_protocol.specs.Server.{Serving}
use Rattle.ec_coherence.specs.System.{System, Ghost, is_open, open_in}
use Rattle.ec_coherence.specs.Sessions as sessions
use Rattle.ec_coherence.specs.Tokens.{view, TokensAgree}
use Rattle.ec_coherence.specs.Steps.{serving_in}
use Rattle.ec_coherence.proofs.ForServer.SlotLaws.{in-range, slot-changed, open-at, open-of}
use Rattle.ec_coherence.proofs.ForServer.Tables.{each-map, same_some}
use Rattle.ec_base.proofs.Numbers.{equal}
use Rattle.ec_base.proofs.Bools.{not-both as refutes, same_tests as alike}

module _ (g : System) (γ : Ghost) (t : Serving) (a : sessions.SessionsAgree (serving_in t γ g)) (c : ℕ) (sl : Slot) (in_slot : slot t.server.durable c ≡ Some sl) (opened : T sl.is_open)
    (sm : Slot) (session : sm.session ≡ sl.session) (age : sm.age ≡ sl.age) (still : T sm.is_open) (more : (b : ℕ) → T (has sl.window b) → T (has sm.window b))
    (volume : Table Image) (next : ℕ) (r : Record) where
  abbrev here : System
  here = serving_in t γ g

  abbrev d' : Durable
  d' = record (t.server.durable) { volume = volume; next_id = next; sessions = with_slot c (Some sm) t.server.durable.sessions }

  abbrev pub marked_step : Serving
  marked_step = record t { server = record (t.server) { durable = d' }; rec = Some r }

  slot-now : (e : ℕ) → slot d' e ≡ cond (e == c) (Some sm) (slot t.server.durable e)
  slot-now e = slot-changed t.server.durable.sessions c e (Some sm) (in-range t.server.durable.sessions c sl in_slot)

  from-slot : (P : ℕ → Slot → Type 0) → P c sm → ((e : ℕ) (so : Slot) → slot t.server.durable e ≡ Some so → P e so) → (e : ℕ) (so : Slot) → slot d' e ≡ Some so → P e so
  from-slot P x f e so p = go (e == c) refl (sym (slot-now e) ∙ p)
    where
      go : (z : Bool) → (e == c) ≡ z → cond z (Some sm) (slot t.server.durable e) ≡ Some so → P e so
      go true q h = subst (λ i. P i so) (sym (equal e c q)) (subst (P c) (same_some h) x)
      go false q h = f e so h

  to-slot : (P : Slot → Type 0) → (P sl → P sm) → (e : ℕ) (so : Slot) → slot t.server.durable e ≡ Some so → P so → (sp : Slot) × (slot d' e ≡ Some sp) × P sp
  to-slot P f e so p q = go (e == c) refl
    where
      go : (z : Bool) → (e == c) ≡ z → (sp : Slot) × (slot d' e ≡ Some sp) × P sp
      go true h = (sm, slot-now e ∙ ap (λ b. cond b (Some sm) (slot t.server.durable e)) h, f (subst P (same_some (sym p ∙ ap (slot t.server.durable) (equal e c h) ∙ in_slot)) q))
      go false h = (so, slot-now e ∙ ap (λ b. cond b (Some sm) (slot t.server.durable e)) h ∙ p, q)

  -- the same sessions are open
  pub open-same : (s : ℕ) → open_in d'.sessions s ≡ open_in t.server.durable.sessions s
  open-same s = alike _ _ (λ o. let q = open-of d'.sessions s o in from-slot (λ e so. T so.is_open → so.session ≡ s → T (open_in t.server.durable.sessions s))
      (λ x y. open-at t.server.durable.sessions c s sl in_slot opened (sym session ∙ y)) (λ e so p x y. open-at t.server.durable.sessions e s so p x y) q.0 q.1 q.2 q.3 q.4)
      (λ o. let q = open-of t.server.durable.sessions s o in let z = to-slot (λ so. T so.is_open × (so.session ≡ s)) (λ f. (still, session ∙ f.1)) q.0 q.1 q.2 (q.3, q.4) in open-at d'.sessions q.0 s z.0 z.1 z.2.0 z.2.1)

  abbrev later : System
  later = serving_in marked_step γ g

  is-open : T (is_open here sl.session)
  is-open = open-at t.server.durable.sessions c sl.session sl in_slot opened refl

  message-kept : (d : ℕ) (m : Msg) → sessions.Fits here d m → sessions.Fits later d m
  message-kept d (Kept s e b) q = (
    q.0,
    λ so p f. from-slot (λ i so. i ≡ d → so.session ≡ s → T (has so.window b))
        (λ i f. more b (q.1 sl (subst (λ z. slot t.server.durable z ≡ Some sl) i in_slot) (sym session ∙ f))) (λ i so p j f. q.1 so (subst (λ z. slot t.server.durable z ≡ Some so) j p) f) d so p refl f,
  )
  message-kept d (Ended s low mask) q = (
    q.0,
    subst (λ b. T (not b)) (sym (open-same s)) q.1,
    λ so p f. from-slot (λ i so. i ≡ d → so.session ≡ s → (so.window.low ≡ low) × (so.window.mask ≡ mask))
        (λ i f. absurd (refutes (is_open here s) (subst (λ z. T (is_open here z)) (sym session ∙ f) is-open) q.1)) (λ i so p j f. q.2 so (subst (λ z. slot t.server.durable z ≡ Some so) j p) f) d so p refl f,
  )
  message-kept d _ q = q

  pub marked-sessions : sessions.SessionsAgree later
  marked-sessions = record {
    sixteen = length-set t.server.durable.sessions c (Some sm) ∙ a.sixteen;
    next = a.next;
    slots = from-slot (λ e so. (suc zero ≤ so.session) × (so.session < t.server.durable.next_session) × (γ.owner so.session ≡ Some (e, so.age)))
        (let q = a.slots c sl in_slot in (subst (λ z. suc zero ≤ z) (sym session) q.0, subst (λ z. z < t.server.durable.next_session) (sym session) q.1, ap γ.owner session ∙ q.2 ∙ ap (λ z. Some (c, z)) (sym age))) a.slots;
    owned = λ s o p. let q = a.owned s o p in let z = to-slot (λ so. (so.session ≡ s) ⊎ T (is_older o.1 so.age)) (λ f. elim f [ inl e ↦ inl (session ∙ e) | inr e ↦ inr (subst (λ w. T (is_older o.1 w)) (sym age) e) ]) o.0 q.2 q.3 q.4 in (q.0, q.1, z.0, z.1, z.2);
    once = a.once;
    taken = a.taken;
    told = a.told;
    starts = a.starts;
    rounds = a.rounds;
    running = a.running;
    in_session = a.in_session;
    without = a.without;
    current = λ d b s k p q f. let o = a.current d b s k p q f in let z = to-slot (λ so. so.session ≡ s) (λ e. session ∙ e) d o.0 o.1 o.2 in (z.0, z.1, z.2);
    sound = a.sound;
    messages = each-map (λ m. sessions.Fits here m.0 m.1) (λ m. sessions.Fits later m.0 m.1) (g.pool ++ t.sent) (λ m. message-kept m.0 m.1) a.messages;
  }

  -- and the facts about tokens, where no id was given out
  pub marked-tokens : next ≡ t.server.durable.next_id → TokensAgree (view here) → TokensAgree (view later)
  marked-tokens e b = subst (λ f. TokensAgree (record (view later) { is_open = f })) (λ i s. sym (open-same s) i)
      (subst (λ n. TokensAgree (record (view here) { next_id = n; next_token = n })) (sym e) b)
