-- Behind a new session of a clerk without an open one, with its record and its message, sessions, tokens, logs and images agree.
use Rattle.std.proofs.Common.{◌≡◌, ◌≢◌, refl, sym, ap, subst, ◌∙◌, cond, arith, ℕ, true, false, not, ◌&&◌, T, ◌<◌, List, [], ◌∷◌, ◌++◌}
use Rattle.std.specs.Prelude.{nat_le, nat_lt, Option, None, Some, Result, Ok, Err}
use Rattle.std.proofs.lemmas.Bool.{ne_eqb}
use Rattle.std.proofs.lemmas.List.{append_assoc}
use Rattle.ec_base.specs.Ages.{is_older}
use Rattle.ec_base.specs.Limits.{last_counter}
use Rattle.ec_base.specs.declared.ids.Age.{Age}
use Rattle.ec_history.specs.History.{Each}
use Rattle.ec_sessions.specs.Slots.{is_greater, new_slot}
use Rattle.ec_sessions.specs.declared.slot.Slot.{Slot}
use Rattle.ec_wire.specs.Messages.{is_sound}
use Rattle.ec_wire.specs.declared.msg.Msg.{Msg}
use Rattle.ec_wire.specs.declared.msg.Msg.TheVariants.{Opened}
use Rattle.ec_durable.specs.Durable.{slot, step, is_next_session}
use Rattle.ec_durable.specs.declared.state.Durable.{Durable}
use Rattle.ec_durable.specs.declared.record.Record.TheVariants as record_of
use Rattle.ec_durable.specs.declared.record.RecordFault.{RecordFault}
use Rattle.ec_durable.specs.declared.record.RecordFault.TheVariants.{BadAge, BadNumber}
use Rattle.ec_base.specs.declared.counter.Counter.TheVariants as counter
use Rattle.ec_protocol.specs.Server.{Serving, open_new, spend, tell, tell_opened}
use Rattle.ec_coherence.specs.System.{System, Ghost}
use Rattle.ec_coherence.specs.Sessions as sessions
use Rattle.ec_coherence.specs.Sessions.{SessionsAgree}
use Rattle.ec_coherence.specs.Tokens.{TokensAgree, view, tables_of}
use Rattle.ec_coherence.specs.Log.{LogsAgree}
use Rattle.ec_coherence.specs.Images.{ImagesAgree}
use Rattle.ec_coherence.specs.Steps.{serving_in, open_session, Under}
use Rattle.ec_coherence.specs.BatchLaws.{BatchFacts}
use Rattle.ec_coherence.proofs.ForBatches.NewSession.{new-logs, new-images}
use Rattle.ec_coherence.proofs.ForBatches.Opens.{open_step, d', no-owner, open-tokens, open-sessions, room}
use Rattle.ec_coherence.proofs.ForServer.Said.{said-agrees}
use Rattle.ec_coherence.proofs.ForServer.SlotLaws.{slot-changed}
use Rattle.ec_base.proofs.Numbers.{same-self as same, below}
use Rattle.ec_base.proofs.Bools.{not-both as refutes, is-true}
use Rattle.ec_history.proofs.HistoryLemmas.{each-more as each-append}

module _ (g : System) (γ : Ghost) (t : Serving) (u : Under g t γ) (c : ℕ) (age : Age) (within : c < 16)
    (idle : (sl : Slot) → slot t.server.durable c ≡ Some sl → T (not sl.is_open)) (greater : (sl : Slot) → slot t.server.durable c ≡ Some sl → T (is_older sl.age age))
    (reached : sessions.IsReached (serving_in t γ g) c age) (small : nat_le last_counter t.server.durable.next_session ≡ false) where
  abbrev here : System
  here = serving_in t γ g

  abbrev s : ℕ
  s = t.server.durable.next_session

  abbrev pub d : Durable
  d = d' g γ t u.invariant.tokens u.invariant.sessions c age within idle greater reached

  abbrev opening : Serving
  opening = open_step g γ t u.invariant.tokens u.invariant.sessions c age within idle greater reached

  abbrev pub γ' : Ghost
  γ' = open_session c age s γ

  abbrev told : List (ℕ × Msg)
  told = (c, Opened age s t.server.durable.epoch) ∷ []

  abbrev pub opened : Serving
  opened = tell c (Opened age s t.server.durable.epoch) opening

  abbrev behind : System
  behind = serving_in opened γ' g

  pub fresh : γ.owner s ≡ None
  fresh = no-owner g γ t u.invariant.tokens u.invariant.sessions c age within idle greater reached

  pub own : slot d c ≡ Some (new_slot age s)
  own = slot-changed t.server.durable.sessions c c (Some (new_slot age s)) (room g γ t u.invariant.tokens u.invariant.sessions c age within idle greater reached) ∙ ap (λ z. cond z (Some (new_slot age s)) (slot t.server.durable c)) (same c)

  pub others : (j : ℕ) → j ≢ c → slot d j ≡ slot t.server.durable j
  others j n = slot-changed t.server.durable.sessions c j (Some (new_slot age s)) (room g γ t u.invariant.tokens u.invariant.sessions c age within idle greater reached) ∙ ap (λ z. cond z (Some (new_slot age s)) (slot t.server.durable j)) (ne_eqb j c n)

  is-greater-now : is_greater (slot t.server.durable c) age ≡ true
  is-greater-now = go (slot t.server.durable c) refl
    where
      go : (o : Option Slot) → slot t.server.durable c ≡ o → is_greater o age ≡ true
      go None p = refl
      go (Some sl) p = is-true (is_older sl.age age) (greater sl p)

  pub steps : step (record_of.Open c age s) t.server.durable ≡ Ok d
  steps = ap (λ b. elim b as (λ z. Result Durable RecordFault) [
    | false ↦ Err BadAge
    | true ↦ elim (is_next_session s t.server.durable) as (λ z. Result Durable RecordFault) [ false ↦ Err BadNumber | true ↦ Ok d ]
  ]) is-greater-now ∙ ap (λ b. elim b as (λ z. Result Durable RecordFault) [ false ↦ Err BadNumber | true ↦ Ok d ]) next
    where
      next : is_next_session s t.server.durable ≡ true
      next = ap (λ z. z && nat_lt s last_counter) (same s) ∙ below last_counter s small

  pub open-is : open_new c age None t ≡ opened
  open-is = ap (λ b. elim b as (λ z. Serving) [
    | true ↦ spend counter.Session t
    | false ↦ elim (step (record_of.Open c age s) t.server.durable) as (λ z. Serving) [ Ok e ↦ tell_opened c age s None (record t { server = record (t.server) { durable = e }; rec = Some (record_of.Open c age s) }) | Err f ↦ t ]
  ]) small ∙ ap (λ r. elim r as (λ z. Serving) [ Ok e ↦ tell_opened c age s None (record t { server = record (t.server) { durable = e }; rec = Some (record_of.Open c age s) }) | Err f ↦ t ]) steps

  pub own-session : γ'.owner s ≡ Some (c, age)
  own-session = ap (λ b. elim b as (λ z. Option (ℕ × Age)) [ true ↦ Some (c, age) | false ↦ γ.owner s ]) (same s)

  opened-sessions : SessionsAgree behind
  opened-sessions = let a = open-sessions g γ t u.invariant.tokens u.invariant.sessions c age within idle greater reached in record {
    sixteen = a.sixteen;
    next = a.next;
    slots = a.slots;
    owned = a.owned;
    once = a.once;
    taken = a.taken;
    told = a.told;
    starts = a.starts;
    rounds = a.rounds;
    running = a.running;
    in_session = a.in_session;
    without = a.without;
    current = a.current;
    sound = subst (Each (λ m. T (is_sound m.1))) (append_assoc g.pool t.sent told) (each-append (λ m. T (is_sound m.1)) (g.pool ++ t.sent) told a.sound (tt, tt));
    messages = subst (Each (λ m. sessions.Fits behind m.0 m.1)) (append_assoc g.pool t.sent told) (each-append (λ m. sessions.Fits behind m.0 m.1) (g.pool ++ t.sent) told a.messages (own-session, tt));
  }

  opened-tokens : TokensAgree (view behind)
  opened-tokens = subst (λ p. TokensAgree (record (view (serving_in opening γ' g)) { pool = p })) (append_assoc g.pool t.sent told)
      (said-agrees (view (serving_in opening γ' g)) (tables_of (record (t.server) { claimed = s ∷ t.server.claimed })) c (Opened age s t.server.durable.epoch)
      (open-tokens g γ t u.invariant.tokens u.invariant.sessions c age within idle greater reached) (omega arith, λ a b. refl))

  free : (sm : Slot) → slot t.server.durable c ≡ Some sm → T sm.is_open → ⊥
  free sm p o = refutes sm.is_open o (idle sm p)

  opened-logs : LogsAgree behind
  opened-logs = subst (λ p. LogsAgree (record behind { pool = p })) (append_assoc g.pool t.sent told)
      (new-logs here u.invariant.sessions u.invariant.logs u.invariant.images c s age fresh free d own others refl refl behind.server told (tt, tt))

  opened-images : ImagesAgree behind
  opened-images = subst (λ p. ImagesAgree (record behind { pool = p })) (append_assoc g.pool t.sent told)
      (new-images here u.invariant.sessions u.invariant.logs u.invariant.images c s age fresh free d own others refl refl behind.server told)

  pub open-agrees : BatchFacts (serving_in (open_new c age None t) γ' g)
  open-agrees = subst (λ z. BatchFacts (serving_in z γ' g)) (sym open-is) (record { sessions = opened-sessions; tokens = opened-tokens; logs = opened-logs; images = opened-images })
