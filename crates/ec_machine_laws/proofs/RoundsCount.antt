-- Rounds of serving: counters rise with messages, and no record is committed.
use Rattle.std.proofs.Common.{refl, ℕ, zero, suc, Bool, true, false, List, [], ◌∷◌, length, Option, length-append}
use Rattle.std.specs.List.{list_any}
use Rattle.ec_base.specs.declared.ids.Hold.{Hold}
use Rattle.ec_volume.specs.Volume.{images}
use Rattle.ec_sessions.specs.OfTokens.Tokens.{granted}
use Rattle.ec_sessions.specs.OfRecall.Due.{actions, wants_after}
use Rattle.ec_sessions.specs.declared.recall.want.Action.{Action}
use Rattle.ec_sessions.specs.declared.recall.want.Action.TheVariants.{Grant, Recall}
use Rattle.ec_wire.specs.declared.msg.Msg.TheVariants as msg
use Rattle.ec_durable.specs.declared.record.Record.{Record}
use Rattle.ec_protocol.specs.Server.{Serving, act, act_all, all_claimed, clerk_of, epoch, is_grant, send_grant, serve, serve_rounds, with_server}
use Rattle.ec_machine_laws.proofs.Rising.{Rises, rises-numbered, rises-on, rises-self, rises-told, rises-with}

module _ (R : Option Record → Type 0) where
  granting : ℕ → ℕ → Hold → Serving → Serving
  granting ss x h u = send_grant (clerk_of ss u) ss x h u.server.number (with_server (λ s. record s { tokens = granted ss x h u.server.number s.tokens }) u)

  act-rises : (a : Action) (t : Serving) → Rises R t (act a t)
  unfolding granting
  act-rises (Grant ss x h) t = rises-numbered R t (granting ss x h) (λ u. refl) (λ u. refl) (λ u. length-append u.sent ((clerk_of ss u, msg.Grant ss (epoch u) x u.server.number h (images u.server.durable.volume x)) ∷ [])) (λ u. refl)
  act-rises (Recall ss x n h) t = rises-told R t (clerk_of ss t) (msg.Recall ss (epoch t) x n h)

  acts-rise : (as_due : List Action) (t : Serving) → Rises R t (act_all as_due t)
  acts-rise [] t = rises-self R t
  acts-rise (a ∷ more) t = rises-on R t (act a t) (act_all more (act a t)) (act-rises a t) (acts-rise more (act a t))

  rounds-rise : (k : ℕ) (t : Serving) → Rises R t (serve_rounds k t)
  rounds-rise zero t = rises-self R t
  rounds-rise (suc k) t = go (list_any is_grant (actions t.server.tokens t.server.recalls)) (rounds-rise k after)
    where
      wanting : Serving
      wanting = with_server (λ s. record s { recalls = wants_after s.tokens s.recalls }) t

      after : Serving
      after = act_all (actions t.server.tokens t.server.recalls) wanting

      done : Rises R t after
      done = rises-on R t wanting after (rises-with R t wanting.server refl refl) (acts-rise (actions t.server.tokens t.server.recalls) wanting)

      go : (b : Bool) → Rises R after (serve_rounds k after) → Rises R t (elim b as (λ z. Serving) [ true ↦ serve_rounds k after | false ↦ after ])
      go true more = rises-on R t after (serve_rounds k after) done more
      go false more = done

  pub serve-rises : (t : Serving) → Rises R t (serve t)
  serve-rises t = go (all_claimed t.server)
    where
      go : (b : Bool) → Rises R t (elim b as (λ z. Serving) [ true ↦ serve_rounds (suc (length t.server.recalls)) t | false ↦ t ])
      go true = rounds-rise (suc (length t.server.recalls)) t
      go false = rises-self R t
