-- What a change of the server leaves of a clerk's session, and of the messages under way.
use Rattle.std.specs.Prelude.{◌≡◌, ◌≤◌, ℕ, T, Bool, true, not, List, Some, Contains}
use Rattle.std.specs.List.{list_all}
use Rattle.ec_volume.specs.Update.{member}
use Rattle.ec_sessions.specs.declared.slot.Slot.{Slot}
use Rattle.ec_sessions.specs.OfTokens.Tokens.{token}
use Rattle.ec_wire.specs.declared.msg.Msg.{Msg}
use Rattle.ec_durable.specs.Durable.{slot}
use Rattle.ec_protocol.specs.Server.{has_claimed}
use Rattle.ec_protocol.specs.declared.server.Server.{Server}
use Rattle.ec_quiet.specs.Phases.{backs, is_back, is_back_message}
use Rattle.ec_quiet.specs.Scenes.{Mail}
use Rattle.ec_quiet.specs.Works.{Work}

-- the server w has the slot of the clerk c and the tokens of the session s as v has them, and is in the same epoch
pub record IsLike (v w : Server) (c s : ℕ) : Type 0 where
  pub slot : slot w.durable c ≡ slot v.durable c
  pub epoch : w.durable.epoch ≡ v.durable.epoch
  pub claimed : has_claimed s v ≡ true → has_claimed s w ≡ true
  pub number : v.number ≤ w.number
  pub tokens : (x : ℕ) → token w.tokens s x ≡ token v.tokens s x

-- The same, where the tokens on some objects may differ.
pub record IsLikeBut (xs : List ℕ) (v w : Server) (c s : ℕ) : Type 0 where
  pub slot : slot w.durable c ≡ slot v.durable c
  pub epoch : w.durable.epoch ≡ v.durable.epoch
  pub claimed : has_claimed s v ≡ true → has_claimed s w ≡ true
  pub number : v.number ≤ w.number
  pub tokens : (x : ℕ) → T (not (member x xs)) → token w.tokens s x ≡ token v.tokens s x

-- The same of the clerk's session s, where its slot was sl and is sm now.
pub record HasMoved (xs : List ℕ) (v w : Server) (c s : ℕ) (sl sm : Slot) : Type 0 where
  pub slot : slot w.durable c ≡ Some sm
  pub session : sm.session ≡ sl.session
  pub is_open : sm.is_open ≡ sl.is_open
  pub epoch : w.durable.epoch ≡ v.durable.epoch
  pub claimed : has_claimed s v ≡ true → has_claimed s w ≡ true
  pub number : v.number ≤ w.number
  pub tokens : (x : ℕ) → T (not (member x xs)) → token w.tokens s x ≡ token v.tokens s x

-- none of these messages gives a token back
abbrev pub are_no_backs : Mail → Bool
are_no_backs ms = list_all (λ m. not (is_back_message m.1)) ms

-- the tokens that the line's clerk gives back in these messages are the same, and those of the first mail are all under way in the second
pub record KeepsBacks (j : Work) (ms ns : Mail) : Type 0 where
  pub same : backs j ns ≡ backs j ms
  pub kept : (m : ℕ × Msg) → is_back j m ≡ true → Contains ms m → Contains ns m
