-- The whole invariant behind a session that the server opens for a clerk without an open one.
use Rattle.std.proofs.Common.{◌≡◌, refl, sym, ap, subst, ◌∙◌, inl, inr, ◌⊎◌, ℕ, true, false, not, ◌==◌, ◌&&◌, ◌||◌, T, ◌<◌, List, [], ◌∷◌, ◌++◌, Option, Some, None}
use Rattle.std.specs.Prelude.{nat_le, Ok}
use Rattle.std.specs.List.{filter}
use Rattle.std.proofs.lemmas.Bool.{cases_eq, and_parts}
use Rattle.ec_base.specs.Ages.{is_older}
use Rattle.ec_base.specs.Limits.{last_counter}
use Rattle.ec_base.specs.declared.ids.Age.{Age}
use Rattle.ec_volume.specs.Update.{member}
use Rattle.ec_history.specs.History.{Each, Op, numbers, of_start}
use Rattle.ec_history.specs.declared.shown.Shown.{Shown}
use Rattle.ec_sessions.specs.declared.slot.Slot.{Slot}
use Rattle.ec_wire.specs.declared.msg.Msg.TheVariants.{Opened}
use Rattle.ec_durable.specs.Durable.{slot, step}
use Rattle.ec_durable.specs.declared.record.Record.TheVariants as record_of
use Rattle.ec_sessions.specs.OfTokens.Tokens as tokens
use Rattle.ec_protocol.specs.Server.{Serving, open_new}
use Rattle.ec_coherence.specs.System.{System, Ghost, eff_from, is_of, is_open, undurable}
use Rattle.ec_coherence.specs.Sessions.{IsReached}
use Rattle.ec_coherence.specs.Tokens.{eff, view}
use Rattle.ec_coherence.specs.Log.{HasWrites}
use Rattle.ec_coherence.specs.Events.{EventsAgree}
use Rattle.ec_coherence.specs.Steps.{end_lines, ended_line, open_session, record_lines, serving_in, Under}
use Rattle.ec_coherence.specs.BatchLaws.{BatchFacts}
use Rattle.ec_coherence.proofs.ForBatches.OpenAgrees as opening
use Rattle.ec_coherence.proofs.ForBatches.OpenAgrees.{open-agrees}
use Rattle.ec_coherence.proofs.ForBatches.OpenSlots.{at-open, open-at, owner-slot}
use Rattle.ec_coherence.proofs.ForServer.Tables.{differ, same_some}
use Rattle.ec_coherence.specs.Starts.{StartsAgree}
use Rattle.ec_coherence.specs.Watches.{WatchesAgree, still_in}
use Rattle.ec_coherence.proofs.ForCommits.Framed.{framed-events}
use Rattle.ec_coherence.proofs.ForCommits.Given.{before-lines, before-record, ended-unclaimed}
use Rattle.ec_coherence.proofs.ForCommits.Starting.{owned-with, quiet-with, starts-behind}
use Rattle.ec_coherence.proofs.ForCommits.Stopping.{stops-behind}
use Rattle.ec_coherence.proofs.ForCommits.Watched.{reslotted-watches}
use Rattle.ec_base.proofs.Bools.{left as and_first, not-both as no_both, off-of, is-true, holds-true as holds}
use Rattle.ec_base.proofs.Options.{none_some}
use Rattle.ec_base.proofs.Numbers.{equal}
use Rattle.ec_history.proofs.OfLaws.ForPlacing.LateLoss.{filter-none}

module _ (g : System) (γ : Ghost) (t : Serving) (u : Under g t γ) (none : t.rec ≡ None) (c : ℕ) (age : Age) (within : c < 16)
    (idle : (sl : Slot) → slot t.server.durable c ≡ Some sl → T (not sl.is_open)) (greater : (sl : Slot) → slot t.server.durable c ≡ Some sl → T (is_older sl.age age))
    (reached : IsReached (serving_in t γ g) c age) (small : nat_le last_counter t.server.durable.next_session ≡ false) where
  abbrev here : System
  here = serving_in t γ g

  abbrev s : ℕ
  s = t.server.durable.next_session

  abbrev now : Serving
  now = opening.opened g γ t u c age within idle greater reached small

  abbrev γ' : Ghost
  γ' = open_session c age s γ

  abbrev behind : System
  behind = serving_in now γ' g

  fresh : γ.owner s ≡ None
  fresh = opening.fresh g γ t u c age within idle greater reached small

  -- the start has no other open session, so that all it has kept is durable
  durable-so-far : undurable γ' s ≡ []
  durable-so-far = ap (λ o. filter (λ k. is_of o k && not (γ.is_durable k)) γ.kept) (opening.own-session g γ t u c age within idle greater reached small)
      ∙ filter-none (λ k. is_of (Some (c, age)) k && not (γ.is_durable k)) γ.kept (go γ.kept u.invariant.logs.writes)
    where
      refuted : (k : Op) → (T (not (γ.is_durable k)) → HasWrites here k) → T (is_of (Some (c, age)) k && not (γ.is_durable k)) → ⊥
      refuted k f z =
          let both = and_parts (is_of (Some (c, age)) k) (not (γ.is_durable k)) (is-true (is_of (Some (c, age)) k && not (γ.is_durable k)) z) in
          let w = f (holds (not (γ.is_durable k)) both.1) in
          let q = owner-slot here u.invariant.sessions w.session w.is_open in
          let mine = and_parts (c == k.clerk) (age.boot == k.boot) both.0 in
          let its : T (of_start q.0 ((q.1).age).boot k) = subst (λ o. T (is_of o k)) q.3 w.own in
          let clerks : q.0 ≡ c = equal q.0 k.clerk (is-true (q.0 == k.clerk) (and_first (q.0 == k.clerk) _ its)) ∙ sym (equal c k.clerk mine.0) in
          no_both (q.1).is_open (q.2).2 (idle q.1 (ap (slot t.server.durable) (sym clerks) ∙ (q.2).0))

      go : (ks : List Op) → Each (λ k. T (not (γ.is_durable k)) → HasWrites here k) ks → Each (λ k. (is_of (Some (c, age)) k && not (γ.is_durable k)) ≡ false) ks
      go [] h = tt
      go (k ∷ ks) h = (off-of (is_of (Some (c, age)) k && not (γ.is_durable k)) (refuted k h.0), go ks h.1)

  opens : (r : ℕ) → T (is_open behind r) → (T (is_open here r) × (γ'.owner r ≡ γ.owner r)) ⊎ (undurable γ' r ≡ [])
  opens r o =
      let q = open-at r now.server.durable.sessions o in
      elim (cases_eq q.0 c) [
        | inl e ↦
            let is = same_some (sym (ap (slot now.server.durable) (sym e) ∙ (q.2).0) ∙ opening.own g γ t u c age within idle greater reached small) in
            inr (ap (undurable γ') (sym (q.2).1 ∙ ap (λ w. w.session) is) ∙ durable-so-far)
        | inr n ↦
            let before = sym (opening.others g γ t u c age within idle greater reached small q.0 n) ∙ (q.2).0 in
            let owned = ap γ.owner (sym (q.2).1) ∙ (u.invariant.sessions.slots q.0 q.1 before).2 in
            let other : (r == s) ≡ false = differ r s (λ e. absurd (none_some (sym fresh ∙ ap γ.owner (sym e) ∙ owned))) in
            inl (at-open r t.server.durable.sessions q.0 q.1 (before, (q.2).1, (q.2).2), ap (λ b. elim b as (λ z. Option (ℕ × Age)) [ true ↦ Some (c, age) | false ↦ γ.owner r ]) other)
      ]

  same-tokens : (r : ℕ) (fs : List Op) → γ.frozen r ≡ Some fs → (x : ℕ) → eff (view behind) r x ≡ eff (view here) r x
  same-tokens r fs f x =
      let out = ended-unclaimed g γ t u.invariant r fs f in
      let other : (r == s) ≡ false = differ r s (λ e. absurd (none_some (sym (u.invariant.images.unopened s fresh) ∙ ap γ.frozen (sym e) ∙ f))) in
      ap (λ b. eff_from (b || member r t.server.claimed) (tokens.token t.server.tokens r x) t.server.durable.epoch (γ.old r x)) other

  same-owners : (r : ℕ) (o : ℕ × Age) → γ.owner r ≡ Some o → γ'.owner r ≡ Some o
  same-owners r o p = ap (λ b. elim b as (λ z. Option (ℕ × Age)) [ true ↦ Some (c, age) | false ↦ γ.owner r ]) (differ r s (λ e. absurd (none_some (sym fresh ∙ ap γ.owner (sym e) ∙ p)))) ∙ p

  events : EventsAgree behind
  events = framed-events here now.server.durable (Some now.server) behind.pool γ'.owner γ.taken γ.grants γ.first u.invariant.events refl opens same-tokens same-owners u.invariant.images.unopened

  agrees : BatchFacts behind
  agrees = subst (λ z. BatchFacts (serving_in z γ' g)) (opening.open-is g γ t u c age within idle greater reached small) (open-agrees g γ t u c age within idle greater reached small)

  no-line : record_lines g (Some (record_of.Open c age s)) ≡ []
  no-line = ap (λ d. end_lines g c (slot d c)) (sym (before-record g γ t u none)) ∙ go (slot t.server.durable c) refl
    where
      go : (o : Option Slot) → slot t.server.durable c ≡ o → end_lines g c o ≡ []
      go None p = refl
      go (Some sl) p = ap (λ b. elim b as (λ z. List Shown) [ true ↦ ended_line g c (sl.age).boot ∷ [] | false ↦ [] ]) (off-of sl.is_open (λ o. no_both sl.is_open o (idle sl p)))

  opened : Under g now γ'
  opened = record {
    committed = subst (λ d. step (record_of.Open c age s) d ≡ Ok now.server.durable) (before-record g γ t u none) (opening.steps g γ t u c age within idle greater reached small);
    shown = before-lines g γ t u none ∙ ap (λ ss. g.ghost.shown ++ ss) (sym no-line);
    invariant = record { sessions = agrees.sessions; tokens = agrees.tokens; logs = agrees.logs; images = agrees.images; events = events; stops = stops-behind g γ γ' t now u agrees.images };
  }

  pub open-stands : Under g (open_new c age None t) γ'
  open-stands = subst (λ z. Under g z γ') (sym (opening.open-is g γ t u c age within idle greater reached small)) opened

  module _ (wa : WatchesAgree here) where
    other-owner : (j : ℕ) (sm : Slot) → slot t.server.durable j ≡ Some sm → γ'.owner sm.session ≡ γ.owner sm.session
    other-owner j sm p = ap (λ b. elim b as (λ z. Option (ℕ × Age)) [ true ↦ Some (c, age) | false ↦ γ.owner sm.session ])
        (differ sm.session s (λ e. absurd (none_some (sym fresh ∙ ap γ.owner (sym e) ∙ (u.invariant.sessions.slots j sm p).2))))

    still-others : (j : ℕ) → still_in γ' (slot t.server.durable j) ≡ still_in γ (slot t.server.durable j)
    still-others j = go (slot t.server.durable j) refl
      where
        go : (o : Option Slot) → slot t.server.durable j ≡ o → still_in γ' o ≡ still_in γ o
        go None p = refl
        go (Some sm) p = ap (λ o. elim sm.is_open as (λ y. List ℕ) [ true ↦ numbers (filter (λ k. is_of o k && not (γ.is_durable k)) γ.kept) | false ↦ [] ]) (other-owner j sm p)

    none-open : still_in γ (slot t.server.durable c) ≡ []
    none-open = go (slot t.server.durable c) refl
      where
        go : (o : Option Slot) → slot t.server.durable c ≡ o → still_in γ o ≡ []
        go None p = refl
        go (Some sl) p = ap (λ b. elim b as (λ y. List ℕ) [ true ↦ numbers (undurable γ sl.session) | false ↦ [] ]) (off-of sl.is_open (λ o. no_both sl.is_open o (idle sl p)))

    opened-watches : WatchesAgree behind
    opened-watches = reslotted-watches here now.server.durable (Some now.server) behind.pool γ'.owner γ.taken γ.grants γ.first wa c
        (λ j n. let e = opening.others g γ t u c age within idle greater reached small j n in (e, ap (still_in γ') e ∙ still-others j))
        (ap (still_in γ') (opening.own g γ t u c age within idle greater reached small) ∙ ap numbers durable-so-far ∙ sym none-open)
        (λ b sl p o. absurd (no_both sl.is_open o (idle sl p)))

    pub open-watches : WatchesAgree (serving_in (open_new c age None t) γ' g)
    open-watches = subst (λ z. WatchesAgree (serving_in z γ' g)) (sym (opening.open-is g γ t u c age within idle greater reached small)) opened-watches

  pub open-starts : g.first_boot c < age.boot → StartsAgree here → StartsAgree (serving_in (open_new c age None t) γ' g)
  open-starts above st = subst (λ z. StartsAgree (serving_in z γ' g)) (sym (opening.open-is g γ t u c age within idle greater reached small))
      (starts-behind g γ t st γ' now (quiet-with g γ t st c (Opened age s t.server.durable.epoch) tt) (owned-with g γ t st c age s (λ f. (λ z. above, reached.1))) st.above st.alike)
