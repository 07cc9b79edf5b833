-- Behind a new session in the place of an open one, with their record and the message, sessions, tokens, logs and images agree.
use Rattle.std.proofs.Common.{◌≡◌, ◌≢◌, refl, sym, ap, subst, ◌∙◌, cond, arith, ℕ, true, false, ◌&&◌, T, ◌<◌, List, [], ◌∷◌, ◌++◌}
use Rattle.std.specs.Prelude.{nat_le, nat_lt, Option, None, Some, Result, Ok, Err}
use Rattle.std.proofs.lemmas.Bool.{ne_eqb}
use Rattle.std.proofs.lemmas.List.{append_assoc}
use Rattle.ec_base.specs.Ages.{is_older}
use Rattle.ec_base.specs.Limits.{last_counter}
use Rattle.ec_base.specs.declared.counter.Counter.TheVariants as counter
use Rattle.ec_base.specs.declared.ids.Age.{Age}
use Rattle.ec_history.specs.History.{Each}
use Rattle.ec_sessions.specs.Slots.{is_greater, new_slot}
use Rattle.ec_sessions.specs.declared.slot.Slot.{Slot}
use Rattle.ec_wire.specs.Messages.{is_sound}
use Rattle.ec_wire.specs.declared.msg.Msg.{Msg}
use Rattle.ec_wire.specs.declared.msg.Msg.TheVariants.{Opened}
use Rattle.ec_durable.specs.Durable.{slot, step, is_next_session}
use Rattle.ec_durable.specs.declared.state.Durable.{Durable}
use Rattle.ec_durable.specs.declared.record.Record.TheVariants as record_of
use Rattle.ec_durable.specs.declared.record.RecordFault.{RecordFault}
use Rattle.ec_durable.specs.declared.record.RecordFault.TheVariants.{BadAge, BadNumber}
use Rattle.ec_protocol.specs.Server.{Serving, open_new, spend, tell, tell_opened}
use Rattle.ec_coherence.specs.System.{System, Ghost}
use Rattle.ec_coherence.specs.Sessions as sessions
use Rattle.ec_coherence.specs.Sessions.{SessionsAgree, IsReached}
use Rattle.ec_coherence.specs.Tokens.{TokensAgree, view, tables_of}
use Rattle.ec_coherence.specs.Log.{LogsAgree}
use Rattle.ec_coherence.specs.Images.{ImagesAgree}
use Rattle.ec_coherence.specs.Steps.{serving_in, Under}
use Rattle.ec_coherence.specs.BatchLaws.{BatchFacts}
use Rattle.ec_coherence.proofs.ForBatches.Finish as finish
use Rattle.ec_coherence.proofs.ForBatches.FinishAgrees as finished
use Rattle.ec_coherence.proofs.ForBatches.NewSession.{new-logs, new-images}
use Rattle.ec_coherence.proofs.ForBatches.OpenOver.{between, γ-between, over_step, γ-over, idle, older, over-tokens, over-sessions}
use Rattle.ec_coherence.proofs.ForBatches.Opens.{no-owner}
use Rattle.ec_coherence.proofs.ForServer.Said.{said-agrees}
use Rattle.ec_coherence.proofs.ForServer.SlotLaws.{in-range, slot-changed}
use Rattle.ec_base.proofs.Numbers.{same-self as same, below}
use Rattle.ec_base.proofs.Bools.{not-both as refutes, is-true}
use Rattle.ec_history.proofs.HistoryLemmas.{each-more as each-append}

module _ (g : System) (γ : Ghost) (t : Serving) (u : Under g t γ) (c : ℕ) (sl : Slot) (in_slot : slot t.server.durable c ≡ Some sl) (opened : T sl.is_open)
    (age : Age) (within : c < 16) (greater : T (is_older sl.age age)) (reached : IsReached (serving_in t γ g) c age) (small : nat_le last_counter t.server.durable.next_session ≡ false) where
  abbrev s : ℕ
  s = t.server.durable.next_session

  abbrev midst : System
  midst = serving_in (between g γ t u c sl in_slot opened age within greater reached) (γ-between g γ t u c sl in_slot opened age within greater reached) g

  abbrev over : Serving
  over = over_step g γ t u c sl in_slot opened age within greater reached

  abbrev d : Durable
  d = over.server.durable

  abbrev γ' : Ghost
  γ' = γ-over g γ t u c sl in_slot opened age within greater reached

  abbrev told : List (ℕ × Msg)
  told = (c, Opened age s t.server.durable.epoch) ∷ []

  abbrev behind : System
  behind = serving_in (tell c (Opened age s t.server.durable.epoch) over) γ' g

  fresh : (γ-between g γ t u c sl in_slot opened age within greater reached).owner s ≡ None
  fresh = no-owner g (γ-between g γ t u c sl in_slot opened age within greater reached) (between g γ t u c sl in_slot opened age within greater reached) (finish.ended-tokens g γ t u c sl in_slot opened)
      (finish.ended-sessions g γ t u c sl in_slot opened) c age within (idle g γ t u c sl in_slot opened age within greater reached) (older g γ t u c sl in_slot opened age within greater reached) reached

  own : slot d c ≡ Some (new_slot age s)
  own = slot-changed t.server.durable.sessions c c (Some (new_slot age s)) (in-range t.server.durable.sessions c sl in_slot) ∙ ap (λ z. cond z (Some (new_slot age s)) (slot t.server.durable c)) (same c)

  others : (j : ℕ) → j ≢ c → slot d j ≡ slot midst.durable j
  others j n = slot-changed t.server.durable.sessions c j (Some (new_slot age s)) (in-range t.server.durable.sessions c sl in_slot) ∙ ap (λ z. cond z (Some (new_slot age s)) (slot t.server.durable j)) (ne_eqb j c n)
      ∙ sym (finished.others g γ t u c sl in_slot opened j n)

  steps : step (record_of.Open c age s) t.server.durable ≡ Ok d
  steps = ap (λ b. elim b as (λ z. Result Durable RecordFault) [
    | false ↦ Err BadAge
    | true ↦ elim (is_next_session s t.server.durable) as (λ z. Result Durable RecordFault) [ false ↦ Err BadNumber | true ↦ Ok d ]
  ]) (ap (λ o. is_greater o age) in_slot ∙ is-true (is_older sl.age age) greater) ∙ ap (λ b. elim b as (λ z. Result Durable RecordFault) [ false ↦ Err BadNumber | true ↦ Ok d ]) next
    where
      next : is_next_session s t.server.durable ≡ true
      next = ap (λ z. z && nat_lt s last_counter) (same s) ∙ below last_counter s small

  open-is : open_new c age (Some sl.session) t ≡ tell c (Opened age s t.server.durable.epoch) over
  open-is = ap (λ b. elim b as (λ z. Serving) [
    | true ↦ spend counter.Session t
    | false ↦ elim (step (record_of.Open c age s) t.server.durable) as (λ z. Serving) [ Ok e ↦ tell_opened c age s (Some sl.session) (record t { server = record (t.server) { durable = e }; rec = Some (record_of.Open c age s) }) | Err f ↦ t ]
  ]) small ∙ ap (λ r. elim r as (λ z. Serving) [ Ok e ↦ tell_opened c age s (Some sl.session) (record t { server = record (t.server) { durable = e }; rec = Some (record_of.Open c age s) }) | Err f ↦ t ]) steps

  own-session : γ'.owner s ≡ Some (c, age)
  own-session = ap (λ b. elim b as (λ z. Option (ℕ × Age)) [ true ↦ Some (c, age) | false ↦ (γ-between g γ t u c sl in_slot opened age within greater reached).owner s ]) (same s)

  opened-sessions : SessionsAgree behind
  opened-sessions = let a = over-sessions g γ t u c sl in_slot opened age within greater reached in record {
    sixteen = a.sixteen;
    next = a.next;
    slots = a.slots;
    owned = a.owned;
    once = a.once;
    taken = a.taken;
    told = a.told;
    starts = a.starts;
    rounds = a.rounds;
    running = a.running;
    in_session = a.in_session;
    without = a.without;
    current = a.current;
    sound = subst (Each (λ m. T (is_sound m.1))) (append_assoc g.pool t.sent told) (each-append (λ m. T (is_sound m.1)) (g.pool ++ t.sent) told a.sound (tt, tt));
    messages = subst (Each (λ m. sessions.Fits behind m.0 m.1)) (append_assoc g.pool t.sent told) (each-append (λ m. sessions.Fits behind m.0 m.1) (g.pool ++ t.sent) told a.messages (own-session, tt));
  }

  opened-tokens : TokensAgree (view behind)
  opened-tokens = subst (λ p. TokensAgree (record (view (serving_in over γ' g)) { pool = p })) (append_assoc g.pool t.sent told)
      (said-agrees (view (serving_in over γ' g)) (tables_of over.server) c (Opened age s t.server.durable.epoch) (over-tokens g γ t u c sl in_slot opened age within greater reached) (omega arith, λ a b. refl))

  free : (sm : Slot) → slot midst.durable c ≡ Some sm → T sm.is_open → ⊥
  free sm p o = refutes sm.is_open o (idle g γ t u c sl in_slot opened age within greater reached sm p)

  opened-logs : LogsAgree behind
  opened-logs = subst (λ p. LogsAgree (record behind { pool = p })) (append_assoc g.pool t.sent told)
      (new-logs midst (finish.ended-sessions g γ t u c sl in_slot opened) (finished.between-logs g γ t u c sl in_slot opened) (finished.between-images g γ t u c sl in_slot opened) c s age fresh free d own others refl refl behind.server told (tt, tt))

  opened-images : ImagesAgree behind
  opened-images = subst (λ p. ImagesAgree (record behind { pool = p })) (append_assoc g.pool t.sent told)
      (new-images midst (finish.ended-sessions g γ t u c sl in_slot opened) (finished.between-logs g γ t u c sl in_slot opened) (finished.between-images g γ t u c sl in_slot opened) c s age fresh free d own others refl refl behind.server told)

  pub over-agrees : BatchFacts (serving_in (open_new c age (Some sl.session) t) γ' g)
  over-agrees = subst (λ z. BatchFacts (serving_in z γ' g)) (sym open-is) (record { sessions = opened-sessions; tokens = opened-tokens; logs = opened-logs; images = opened-images })
