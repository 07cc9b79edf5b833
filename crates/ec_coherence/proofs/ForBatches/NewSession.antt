-- The server opens a session for a clerk without an open one.
use Rattle.std.proofs.Common.{◌≡◌, ◌≢◌, refl, sym, ap, subst, ◌∙◌, inl, inr, ◌⊎◌, ℕ, Bool, true, false, not, ◌&&◌, T, ◌<◌, List, ◌++◌}
use Rattle.std.specs.Prelude.{Option, None, Some, is_some}
use Rattle.std.specs.List.{filter}
use Rattle.std.proofs.lemmas.Bool.{cases_eq}
use Rattle.ec_base.specs.declared.ids.Age.{Age}
use Rattle.ec_volume.specs.Image.{is_gone}
use Rattle.ec_volume.specs.Update.{member, operands, distinct}
use Rattle.ec_volume.specs.Volume.{images}
use Rattle.ec_history.specs.History.{Each}
use Rattle.ec_sessions.specs.Slots.{new_slot}
use Rattle.ec_sessions.specs.declared.slot.Slot.{Slot}
use Rattle.ec_wire.specs.declared.msg.Msg.{Msg}
use Rattle.ec_wire.specs.declared.msg.Msg.TheVariants.{Flush, Room}
use Rattle.ec_durable.specs.Durable.{slot}
use Rattle.ec_durable.specs.declared.state.Durable.{Durable}
use Rattle.ec_protocol.specs.declared.clerk.Clerk.{Clerk}
use Rattle.ec_protocol.specs.declared.server.Server.{Server}
use Rattle.ec_coherence.specs.System.{System, Ghost, clerk_in, clerk_of, is_open, is_of, undurable, at_session, seen_ops}
use Rattle.ec_coherence.specs.Sessions.{SessionsAgree}
use Rattle.ec_coherence.specs.Steps.{open_session}
use Rattle.ec_coherence.specs.Log as log
use Rattle.ec_coherence.specs.Log.{Knows, LogAgrees, LogsAgree, HasWrites, IdsAgree, IsNumbered, OfOpen, InSession, mine, next_of}
use Rattle.ec_coherence.specs.Images.{ImagesAgree}
use Rattle.ec_coherence.proofs.ForServer.Lists.{each-turn, each-more}
use Rattle.ec_coherence.proofs.ForBatches.OpenSlots.{open-at, at-open}
use Rattle.ec_coherence.proofs.ForServer.Tables.{same_some, differ}
use Rattle.ec_base.proofs.Numbers.{same-self as same, equal}
use Rattle.ec_base.proofs.Options.{none_some}

module _ (g : System) (sa : SessionsAgree g) (lo : LogsAgree g) (im : ImagesAgree g) (c s : ℕ) (age : Age) (fresh : g.ghost.owner s ≡ None)
    -- the clerk has no open session, and the new one is its slot's
    (free : (sm : Slot) → slot g.durable c ≡ Some sm → T sm.is_open → ⊥) (d : Durable) (here : slot d c ≡ Some (new_slot age s)) (others : (j : ℕ) → j ≢ c → slot d j ≡ slot g.durable j)
    (volume : d.volume ≡ (g.durable).volume) (next_id : d.next_id ≡ (g.durable).next_id) (v : Option Server) (ms : List (ℕ × Msg)) where
  abbrev pub ghost : Ghost
  ghost = open_session c age s g.ghost

  abbrev pub h : System
  h = record g { durable = d; server = v; pool = g.pool ++ ms; ghost = ghost }

  -- the slots that stand
  was : (t j : ℕ) (sm : Slot) → slot d j ≡ Some sm → sm.session ≡ t → ((t ≡ s) × (sm ≡ new_slot age s)) ⊎ ((t ≢ s) × (slot g.durable j ≡ Some sm))
  was t j sm p q = elim (cases_eq j c) [
    | inl e ↦ let z : sm ≡ new_slot age s = same_some (sym (ap (slot d) (sym e) ∙ p) ∙ here) in inl (sym q ∙ ap (λ w. w.session) z, z)
    | inr n ↦ let p' : slot g.durable j ≡ Some sm = sym (others j n) ∙ p in inr (λ e. absurd (none_some (sym fresh ∙ ap g.ghost.owner (sym e ∙ sym q) ∙ (sa.slots j sm p').2)), p')
  ]

  owner-other : (t : ℕ) → t ≢ s → ghost.owner t ≡ g.ghost.owner t
  owner-other t n = ap (λ b. elim b as (λ z. Option (ℕ × Age)) [ true ↦ Some (c, age) | false ↦ g.ghost.owner t ]) (differ t s n)

  in-other : (t : ℕ) → t ≢ s → clerk_in h t ≡ clerk_in g t
  in-other t n = ap (λ o. clerk_of t o g.clerks) (owner-other t n)

  -- no clerk is in it yet
  nobody : (m : Clerk) → clerk_in h s ≡ Some m → ⊥
  nobody m i = go (g.clerks c age.boot) refl (sym (ap (λ o. clerk_of s o g.clerks) own) ∙ i)
    where
      own : ghost.owner s ≡ Some (c, age)
      own = ap (λ b. elim b as (λ z. Option (ℕ × Age)) [ true ↦ Some (c, age) | false ↦ g.ghost.owner s ]) (same s)

      go : (z : Option Clerk) → g.clerks c age.boot ≡ z → Rattle.ec_coherence.specs.System.if_in s z ≡ Some m → ⊥
      go None e p = none_some p
      go (Some k) e p = inner (Rattle.ec_protocol.specs.Clerk.is_session s k.session) refl p
        where
          inner : (b : Bool) → Rattle.ec_protocol.specs.Clerk.is_session s k.session ≡ b → elim b as (λ z. Option Clerk) [ true ↦ Some k | false ↦ None ] ≡ Some m → ⊥
          inner false q p = none_some p
          inner true q p = in-it k.session refl q
            where
              in-it : (z : Option ℕ) → k.session ≡ z → Rattle.ec_protocol.specs.Clerk.is_session s z ≡ true → ⊥
              in-it None f q = absurd (cc)
              in-it (Some t) f q = none_some (sym fresh ∙ (sa.in_session c age.boot s k e (f ∙ ap Some (sym (equal s t q)))).0)

  not-s : (t : ℕ) → T (is_open g t) → t ≢ s
  not-s t o e = let q = open-at t (g.durable).sessions o in absurd (none_some (sym fresh ∙ ap g.ghost.owner (sym e ∙ sym (q.2).1) ∙ (sa.slots q.0 q.1 (q.2).0).2))

  still-open : (t : ℕ) → T (is_open g t) → T (is_open h t)
  still-open t o = let q = open-at t (g.durable).sessions o in
      at-open t d.sessions q.0 q.1 (others q.0 (λ e. absurd (free q.1 (ap (slot g.durable) (sym e) ∙ (q.2).0) (q.2).2)) ∙ (q.2).0, (q.2).1, (q.2).2)

  new-open : T (is_open h s)
  new-open = at-open s d.sessions c (new_slot age s) (here, refl, tt)

  -- of another session
  was-in : (t j : ℕ) (sm : Slot) (m : Clerk) → slot d j ≡ Some sm → sm.session ≡ t → clerk_in h t ≡ Some m → (t ≢ s) × (slot g.durable j ≡ Some sm) × (clerk_in g t ≡ Some m)
  was-in t j sm m p q i = elim (was t j sm p q) [
    | inl z ↦ absurd (nobody m (ap (clerk_in h) (sym z.0) ∙ i))
    | inr z ↦ (z.0, z.1, sym (in-other t z.0) ∙ i)
  ]

  logs' : (t : ℕ) → OfOpen h t (λ sm. InSession h t (LogAgrees h t sm))
  logs' t j sm p q r m i =
      let z = was-in t j sm m p q i in
      let f : LogAgrees g t sm m = lo.logs t j sm z.1 q r m z.2 in
      record {
        knows = subst (λ o. Knows m.log sm.window (filter (is_of o) g.ghost.kept) g.ghost.is_durable) (sym (owner-other t z.0)) f.knows;
        ids = subst (λ o. IdsAgree m sm (g.ghost.grants t) (g.ghost.first t) (filter (λ k. is_of o k && not (g.ghost.is_durable k)) g.ghost.kept)) (sym (owner-other t z.0)) f.ids;
      }

  fit-kept : (m : Msg) → log.Fits g m → log.Fits h m
  fit-kept (Flush t a b os) f = λ j sm p q r w m i. let z = was-in t j sm m p q i in f j sm z.1 q r w m z.2
  fit-kept (Room t a got ask) f = λ j sm p q r w m i. let z = was-in t j sm m p q i in f j sm z.1 q r w m z.2
  fit-kept _ f = f

  pub new-logs : Each (λ m. log.Fits h m.1) ms → LogsAgree h
  new-logs sent = record {
    writes = each-turn (λ o. T (not (g.ghost.is_durable o)) → HasWrites g o) (λ o. T (not (g.ghost.is_durable o)) → HasWrites h o) g.ghost.kept
        (λ o f n. let w = f n in let z = not-s w.session w.is_open in record { session = w.session; clerk = w.clerk; in_place = in-other w.session z ∙ w.in_place; is_open = still-open w.session w.is_open; own = subst (λ y. T (is_of y o)) (sym (owner-other w.session z)) w.own; writes = w.writes }) lo.writes;
    logs = logs';
    starts = λ e a. let f = lo.starts e a in record { from_one = f.from_one; sorted = f.sorted; numbers = f.numbers; none_later = f.none_later };
    closed = lo.closed;
    unopened = λ t e. lo.unopened t (elim (cases_eq t s) [ inl q ↦ ap g.ghost.owner q ∙ fresh | inr n ↦ sym (owner-other t n) ∙ e ]);
    untaken = λ t j sm p q r n. elim (was t j sm p q) [
      | inl z ↦ (ap (λ w. w.grants) z.1, ap (λ w. w.unspent) z.1, lo.unopened t (ap g.ghost.owner z.0 ∙ fresh), ap (λ w. w.window) z.1)
      | inr z ↦ lo.untaken t j sm z.1 q r n
    ];
    messages = each-more (λ m. log.Fits h m.1) g.pool ms (each-turn (λ m. log.Fits g m.1) (λ m. log.Fits h m.1) g.pool (λ m f. fit-kept m.1 f) lo.messages) sent;
    unspent = λ t x j sm p q r m. elim (was t j sm p q) [
      | inl z ↦ absurd (subst (λ w. T (member x w.unspent)) z.1 m)
      | inr z ↦ let f = lo.unspent t x j sm z.1 q r m in (subst (λ y. x < y) (sym next_id) f.0, subst (λ y. T (is_gone (images y x))) (sym volume) f.1)
    ];
    once = λ t j sm p q r. elim (was t j sm p q) [ inl z ↦ subst (λ w. T (distinct w.unspent)) (sym z.1) tt | inr z ↦ lo.once t j sm z.1 q r ];
    apart = λ t u x n j sm p q r i sn p' q' r' m. elim (was t j sm p q) [
      | inl z ↦ absurd (subst (λ w. T (member x w.unspent)) z.1 m)
      | inr z ↦ elim (was u i sn p' q') [
        | inl y ↦ subst (λ w. T (not (member x w.unspent))) (sym y.1) tt
        | inr y ↦ lo.apart t u x n j sm z.1 q r i sn y.1 q' r' m
      ]
    ];
    whole = λ t x j sm p q r m i. let z = was-in t j sm m p q i in lo.whole t x j sm z.1 q r m z.2;
  }

  pub new-images : ImagesAgree h
  new-images = record {
    server = λ x. ap (λ y. images y x) volume ∙ im.server x;
    fits = im.fits;
    sound = im.sound;
    origin = im.origin;
    origin_held = im.origin_held;
    licences = λ t x m i. elim (cases_eq t s) [
      | inl e ↦ absurd (nobody m (ap (clerk_in h) (sym e) ∙ i))
      | inr n ↦ im.licences t x m (sym (in-other t n) ∙ i)
    ];
    unfrozen = λ t o. elim (cases_eq t s) [
      | inl e ↦ im.unopened t (ap g.ghost.owner e ∙ fresh)
      | inr n ↦ let q = open-at t d.sessions o in elim (was t q.0 q.1 (q.2).0 (q.2).1) [
        | inl z ↦ absurd (n z.0)
        | inr z ↦ im.unfrozen t (at-open t (g.durable).sessions q.0 q.1 (z.1, (q.2).1, (q.2).2))
      ]
    ];
    unopened = λ t e. im.unopened t (elim (cases_eq t s) [ inl q ↦ ap g.ghost.owner q ∙ fresh | inr n ↦ sym (owner-other t n) ∙ e ]);
    cut_off = λ t i. elim (cases_eq t s) [
      | inl e ↦ inl (subst (λ z. T (is_open h z)) (sym e) new-open)
      | inr n ↦ elim (im.cut_off t (subst (λ z. T (is_some z)) (owner-other t n) i)) [ inl o ↦ inl (still-open t o) | inr f ↦ inr f ]
    ];
    known = λ x t. subst (λ y. x < y) (sym next_id) (im.known x t);
    operands = subst (λ y. Each (λ o. Each (λ x. x < y) (operands o.update)) g.ghost.kept) (sym next_id) im.operands;
  }
