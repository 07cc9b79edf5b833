-- Whom a server may send to: each session with a token or a want is open in the slot of a clerk.
use Rattle.std.specs.Prelude.{◌≡◌, ℕ, List, [], ◌∷◌, Option, None, Some, Ok}
use Rattle.ec_sessions.specs.declared.recall.want.Action.{Action}
use Rattle.ec_sessions.specs.declared.recall.want.Action.TheVariants.{Grant, Recall}
use Rattle.ec_durable.specs.Durable.{step}
use Rattle.ec_durable.specs.declared.state.Durable.{Durable}
use Rattle.ec_durable.specs.declared.record.Record.{Record}
use Rattle.ec_admission.specs.Clerks.{IsOpenIn}
use Rattle.ec_protocol.specs.Server.{Serving}
use Rattle.ec_protocol.specs.declared.server.Server.{Server}

abbrev pub Each : {X : Type 0} → (X → Type 0) → List X → Type 0
Each P [] = Unit {0}
Each P (x ∷ xs) = P x × Each P xs

-- each session with a token or a want is open in a clerk's slot
pub record HaveClerks (s : Server) : Type 0 where
  pub tokens : Each (λ row. IsOpenIn s.durable.sessions row.0) s.tokens
  pub wants : Each (λ want. IsOpenIn s.durable.sessions want.session) s.recalls

abbrev pub session_of : Action → ℕ
session_of (Grant s x h) = s
session_of (Recall s x n h) = s

-- A step committed at most one record: this one leads from the old state to the new one.
abbrev pub Records : Option Record → Durable → Durable → Type 0
Records None d e = e ≡ d
Records (Some r) d e = step r d ≡ Ok e

-- what holds of a step under way that began at this state
pub record Goes (d : Durable) (t : Serving) : Type 0 where
  pub clerks : HaveClerks t.server
  pub record_of : Records t.rec d t.server.durable
