-- Behind the end of a session, with its record and its message, sessions, tokens, logs and images agree.
use Rattle.std.proofs.Common.{append-nil, ◌≡◌, ◌≢◌, refl, sym, ap, subst, ◌∙◌, cond, ℕ, T, List, [], ◌∷◌, ◌++◌}
use Rattle.std.specs.Prelude.{Some}
use Rattle.std.proofs.lemmas.Bool.{ne_eqb}
use Rattle.std.proofs.lemmas.List.{append_assoc}
use Rattle.ec_sessions.specs.declared.slot.Slot.{Slot}
use Rattle.ec_wire.specs.declared.msg.Msg.{Msg}
use Rattle.ec_wire.specs.declared.msg.Msg.TheVariants.{Ended}
use Rattle.ec_durable.specs.Durable.{slot}
use Rattle.ec_protocol.specs.Server.{Serving, finish}
use Rattle.ec_coherence.specs.System.{System, Ghost}
use Rattle.ec_coherence.specs.Log.{LogsAgree}
use Rattle.ec_coherence.specs.Images.{ImagesAgree}
use Rattle.ec_coherence.specs.Steps.{serving_in, end_session, Under}
use Rattle.ec_coherence.specs.BatchLaws.{BatchFacts}
use Rattle.ec_coherence.proofs.ForBatches.Ending as ending
use Rattle.ec_coherence.proofs.ForBatches.Finish.{d', ended_step, sm, later, finish-is, finish-sessions, finish-tokens, slot-now}
use Rattle.ec_coherence.proofs.ForServer.Tables.{same_some}
use Rattle.ec_base.proofs.Numbers.{same-self as same}

module _ (g : System) (γ : Ghost) (t : Serving) (u : Under g t γ) (c : ℕ) (sl : Slot) (in_slot : slot t.server.durable c ≡ Some sl) (opened : T sl.is_open) where
  abbrev here : System
  here = serving_in t γ g

  abbrev behind : System
  behind = later g γ t u c sl in_slot opened

  abbrev told : List (ℕ × Msg)
  told = (c, Ended sl.session sl.window.low sl.window.mask) ∷ []

  pub others : (j : ℕ) → j ≢ c → slot (d' g γ t u c sl in_slot opened) j ≡ slot t.server.durable j
  others j n = slot-now g γ t u c sl in_slot opened j ∙ ap (λ b. cond b (Some (sm g γ t u c sl in_slot opened)) (slot t.server.durable j)) (ne_eqb j c n)

  closed : (so : Slot) → slot (d' g γ t u c sl in_slot opened) c ≡ Some so → T so.is_open → ⊥
  closed so p o = subst (λ m. T m.is_open) (sym (same_some (sym own ∙ p))) o
    where
      own : slot (d' g γ t u c sl in_slot opened) c ≡ Some (sm g γ t u c sl in_slot opened)
      own = slot-now g γ t u c sl in_slot opened c ∙ ap (λ b. cond b (Some (sm g γ t u c sl in_slot opened)) (slot t.server.durable c)) (same c)

  -- before the message is sent

  abbrev between : System
  between = serving_in (ended_step g γ t u c sl in_slot opened) (end_session here sl.session γ) g

  pub between-logs : LogsAgree between
  between-logs = subst (λ p. LogsAgree (record between { pool = p })) (append-nil (g.pool ++ t.sent))
      (ending.end-logs here u.invariant.sessions u.invariant.tokens u.invariant.logs u.invariant.images c sl.session sl in_slot refl opened (d' g γ t u c sl in_slot opened) between.server [] refl refl others closed tt)

  pub between-images : ImagesAgree between
  between-images = subst (λ p. ImagesAgree (record between { pool = p })) (append-nil (g.pool ++ t.sent))
      (ending.end-images here u.invariant.sessions u.invariant.tokens u.invariant.logs u.invariant.images c sl.session sl in_slot refl opened (d' g γ t u c sl in_slot opened) between.server [] refl refl others closed)

  -- and behind it

  finish-logs : LogsAgree behind
  finish-logs = subst (λ p. LogsAgree (record behind { pool = p })) (append_assoc g.pool t.sent told)
      (ending.end-logs here u.invariant.sessions u.invariant.tokens u.invariant.logs u.invariant.images c sl.session sl in_slot refl opened (d' g γ t u c sl in_slot opened) behind.server told refl refl others closed (tt, tt))

  finish-images : ImagesAgree behind
  finish-images = subst (λ p. ImagesAgree (record behind { pool = p })) (append_assoc g.pool t.sent told)
      (ending.end-images here u.invariant.sessions u.invariant.tokens u.invariant.logs u.invariant.images c sl.session sl in_slot refl opened (d' g γ t u c sl in_slot opened) behind.server told refl refl others closed)

  pub finish-agrees : BatchFacts (serving_in (finish c sl t) (end_session here sl.session γ) g)
  finish-agrees = subst (λ z. BatchFacts (serving_in z (end_session here sl.session γ) g)) (sym (finish-is g γ t u c sl in_slot opened)) (record {
    sessions = finish-sessions g γ t u c sl in_slot opened;
    tokens = finish-tokens g γ t u c sl in_slot opened;
    logs = finish-logs;
    images = finish-images;
  })
