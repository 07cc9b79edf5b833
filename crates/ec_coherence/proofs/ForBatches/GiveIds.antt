-- The server gives sixteen new ids, behind their record: the facts about tokens.
use Rattle.std.proofs.Common.{◌≡◌, refl, sym, subst, ℕ, T, ◌≤◌, ◌+◌, [], ◌∷◌, ◌++◌}
use Rattle.std.specs.Prelude.{Some}
use Rattle.std.proofs.lemmas.List.{append_assoc}
use Rattle.ec_base.specs.Tables.{put}
use Rattle.ec_volume.specs.Update.{member}
use Rattle.ec_volume.specs.declared.image.Image.TheVariants.{Gone}
use Rattle.ec_sessions.specs.Slots.{with_slot, run}
use Rattle.ec_sessions.specs.Windows.{has}
use Rattle.ec_sessions.specs.declared.slot.Slot.{Slot}
use Rattle.ec_wire.specs.declared.msg.Msg.TheVariants.{Ids}
use Rattle.ec_durable.specs.Durable.{slot}
use Rattle.ec_durable.specs.declared.record.Record.TheVariants as record_of
use Rattle.ec_protocol.specs.Server.{Serving, with_ids}
use Rattle.ec_coherence.specs.System.{System, Ghost}
use Rattle.ec_coherence.specs.Sessions.{SessionsAgree}
use Rattle.ec_coherence.specs.Tokens.{InSession, view, tables_of, TokensAgree}
use Rattle.ec_coherence.specs.Steps.{serving_in, give_ids}
use Rattle.ec_coherence.proofs.ForBatches.Marked.{open-same}
use Rattle.ec_coherence.proofs.ForBatches.NewIds.{given-said}

module _ (g : System) (γ : Ghost) (t : Serving) (a : SessionsAgree (serving_in t γ g)) (b : TokensAgree (view (serving_in t γ g))) (c : ℕ) (sl : Slot) (in_slot : slot t.server.durable c ≡ Some sl) (opened : T sl.is_open)
    (sm : Slot) (session : sm.session ≡ sl.session) (age : sm.age ≡ sl.age) (still : T sm.is_open) (more : (b : ℕ) → T (has sl.window b) → T (has sm.window b))
    (s : ℕ) (claimed : T (member s t.server.claimed)) (taken : T (γ.taken s)) (full : InSession (view (serving_in t γ g)) s (λ k. k.got ≡ γ.grants s))
    (gone : (x : ℕ) → t.server.durable.next_id ≤ x → (view (serving_in t γ g)).seen s x ≡ Gone) where
  abbrev first : ℕ
  first = t.server.durable.next_id

  abbrev n : ℕ
  n = t.server.number + 1

  -- the record is committed, the tokens recorded, and the ids sent
  abbrev pub given_step : Serving
  given_step =
      record t {
        server = record (t.server) {
          durable = record (t.server.durable) { next_id = first + 16; sessions = with_slot c (Some sm) t.server.durable.sessions };
          tokens = with_ids s n (run first 16) t.server.tokens;
          number = n;
          recorded = put s n t.server.recorded;
        };
        sent = t.sent ++ (c, Ids s t.server.durable.epoch (γ.grants s) n first) ∷ [];
        rec = Some (record_of.Ids c s (γ.grants s) first);
      }

  pub give-ids-tokens : TokensAgree (view (serving_in given_step (give_ids s first γ) g))
  give-ids-tokens = subst (λ p. TokensAgree (record (view (serving_in given_step (give_ids s first γ) g)) { pool = p })) (append_assoc g.pool t.sent ((c, Ids s t.server.durable.epoch (γ.grants s) n first) ∷ []))
      (subst (λ f. TokensAgree (record (view (serving_in given_step (give_ids s first γ) g)) { pool = (g.pool ++ t.sent) ++ (c, Ids s t.server.durable.epoch (γ.grants s) n first) ∷ []; is_open = f }))
      (λ i r. sym (open-same g γ t a c sl in_slot opened sm session age still more t.server.durable.volume (first + 16) (record_of.Ids c s (γ.grants s) first) r) i)
      (given-said (view (serving_in t γ g)) (tables_of t.server) s b claimed taken refl full gone c))
