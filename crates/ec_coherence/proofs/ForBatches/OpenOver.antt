-- The server opens a new session in the place of an open one, which ends by the same record: the facts about tokens and about sessions.
use Rattle.std.proofs.Common.{◌≡◌, refl, sym, ap, subst, ◌∙◌, ℕ, zero, suc, false, not, cond, T, ◌<◌, ◌+◌, [], ◌∷◌}
use Rattle.std.specs.Prelude.{Option, Some}
use Rattle.ec_base.specs.declared.ids.Age.{Age}
use Rattle.ec_base.specs.Ages.{is_older}
use Rattle.ec_sessions.specs.Slots.{Slots, with_slot, new_slot}
use Rattle.ec_sessions.specs.declared.slot.Slot.{Slot}
use Rattle.ec_durable.specs.Durable.{slot}
use Rattle.ec_durable.specs.declared.record.Record.TheVariants as record_of
use Rattle.ec_protocol.specs.Server.{Serving, forget}
use Rattle.ec_coherence.specs.System.{System, Ghost}
use Rattle.ec_coherence.specs.Sessions.{SessionsAgree, IsReached}
use Rattle.ec_coherence.specs.Tokens.{view, TokensAgree}
use Rattle.ec_coherence.specs.Steps.{serving_in, open_session, Under}
use Rattle.ec_coherence.proofs.ForBatches.Finish as finish
use Rattle.ec_coherence.proofs.ForBatches.Opens as opens
use Rattle.ec_coherence.proofs.ForServer.Tables.{same_some}
use Rattle.ec_base.proofs.Numbers.{same-self as same}

pub twice : (slots : Slots) (c : ℕ) (a b : Option Slot) → with_slot c b (with_slot c a slots) ≡ with_slot c b slots
twice [] c a b = refl
twice (o ∷ slots) zero a b = refl
twice (o ∷ slots) (suc c) a b = ap (λ l. o ∷ l) (twice slots c a b)

module _ (g : System) (γ : Ghost) (t : Serving) (u : Under g t γ) (c : ℕ) (sl : Slot) (in_slot : slot t.server.durable c ≡ Some sl) (opened : T sl.is_open)
    (age : Age) (within : c < 16) (greater : T (is_older sl.age age)) (reached : IsReached (serving_in t γ g) c age) where
  abbrev pub between : Serving
  between = finish.ended_step g γ t u c sl in_slot opened

  abbrev pub γ-between : Ghost
  γ-between = finish.γ' g γ t u c sl in_slot opened

  abbrev pub s : ℕ
  s = t.server.durable.next_session

  -- one record: the slot is the new session's
  abbrev pub over_step : Serving
  over_step =
      record t {
        server = record (forget sl.session t.server) {
          durable = record (t.server.durable) { next_session = s + 1; sessions = with_slot c (Some (new_slot age s)) t.server.durable.sessions };
          claimed = s ∷ (forget sl.session t.server).claimed;
        };
        rec = Some (record_of.Open c age s);
      }

  abbrev pub γ-over : Ghost
  γ-over = open_session c age s γ-between

  now-closed : (so : Slot) → slot between.server.durable c ≡ Some so → Some (record sl { is_open = false; unspent = [] }) ≡ Some so
  now-closed so p = sym (finish.slot-now g γ t u c sl in_slot opened c ∙ ap (λ b. cond b (Some (record sl { is_open = false; unspent = [] })) (slot t.server.durable c)) (same c)) ∙ p

  pub idle : (so : Slot) → slot between.server.durable c ≡ Some so → T (not so.is_open)
  idle so p = subst (λ z. T (not z.is_open)) (same_some (now-closed so p)) tt

  pub older : (so : Slot) → slot between.server.durable c ≡ Some so → T (is_older so.age age)
  older so p = subst (λ z. T (is_older z.age age)) (same_some (now-closed so p)) greater

  pub over-tokens : TokensAgree (view (serving_in over_step γ-over g))
  over-tokens = subst (λ l. TokensAgree (view (serving_in (record over_step { server = record (over_step.server) { durable = record (over_step.server.durable) { sessions = l } } }) γ-over g)))
      (twice t.server.durable.sessions c (Some (record sl { is_open = false; unspent = [] })) (Some (new_slot age s)))
      (opens.open-tokens g γ-between between (finish.ended-tokens g γ t u c sl in_slot opened) (finish.ended-sessions g γ t u c sl in_slot opened) c age within idle older reached)

  pub over-sessions : SessionsAgree (serving_in over_step γ-over g)
  over-sessions = subst (λ l. SessionsAgree (serving_in (record over_step { server = record (over_step.server) { durable = record (over_step.server.durable) { sessions = l } } }) γ-over g))
      (twice t.server.durable.sessions c (Some (record sl { is_open = false; unspent = [] })) (Some (new_slot age s)))
      (opens.open-sessions g γ-between between (finish.ended-tokens g γ t u c sl in_slot opened) (finish.ended-sessions g γ t u c sl in_slot opened) c age within idle older reached)
