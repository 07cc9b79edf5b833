-- A server that starts serves no noted want until each session that is open on its disk has claimed or was ended. It's told by the messages that it takes and
-- sends.
use Rattle.std.specs.Prelude.{◌≡◌, ◌==◌, ◌<◌, ℕ, T, Bool, true, false, not, ◌&&◌, List, Some, None, ⊤}
use Rattle.ec_history.specs.History.{Each}
use Rattle.ec_sessions.specs.declared.slot.Slot.{Slot}
use Rattle.ec_sessions.specs.OfTokens.Tokens.{token}
use Rattle.ec_sessions.specs.declared.tokens.token.Token.{Token}
use Rattle.ec_wire.specs.declared.msg.Msg.{Msg}
use Rattle.ec_wire.specs.declared.msg.Msg.TheVariants.{Claim, Grant, Recall, Want}
use Rattle.ec_durable.specs.Durable as durable
use Rattle.ec_durable.specs.declared.state.Durable.{Durable}
use Rattle.ec_protocol.specs.Server.{start}
use Rattle.ec_protocol.specs.declared.server.Server.{Server}
use Rattle.ec_machine_laws.specs.OfAppliedOnce.Safe.{Act, acted, does, starts, takes}

-- the act takes a claim of this session
abbrev pub claims : ℕ → Act → Bool
claims s (takes c (Claim t e held)) = t == s
claims s _ = false

abbrev pub is_start : Act → Bool
is_start starts = true
is_start _ = false

-- a message that isn't the session's claim, or an end
abbrev pub IsBefore : ℕ → Act → Type 0
IsBefore s a = T (not (is_start a) && not (claims s a))

-- the session is open
pub record IsOpen (s : ℕ) (d : Durable) : Type 0 where
  pub clerk : ℕ
  pub slot : Slot
  pub at : durable.slot d clerk ≡ Some slot
  pub is_open : T slot.is_open
  pub session : slot.session ≡ s

-- the act wants this object for this session, which has a token of this number on it already
abbrev pub WantsAgain : Act → Server → ℕ → ℕ → ℕ → Type 0
WantsAgain (takes c (Want t e y h last)) v s x n = (t ≡ s) × (y ≡ x) × (k : Token) × (token v.tokens s x ≡ Some k) × (k.number ≡ n)
WantsAgain _ v s x n = ⊥

-- The message serves no want that was noted: it recalls nothing, and grants nothing but what was granted before and is asked for again.
abbrev pub ServesNone : Act → Server → Msg → Type 0
ServesNone a v (Grant s e x n h i) = WantsAgain a v s x n
ServesNone a v (Recall s e x n h) = ⊥
ServesNone a v _ = ⊤

-- Over any messages and ends that follow a start: while a session with a number from before it is open, and no claim of it came, no message serves a want.
abbrev pub ClaimsComeFirst : Type 0
ClaimsComeFirst =
    (d : Durable) (s : ℕ) → s < d.next_session → (acts : List Act) (a : Act) → Each (IsBefore s) acts → IsBefore s a
    → (does a (acted acts (start d).server)).spent ≡ None → IsOpen s (does a (acted acts (start d).server)).server.durable
    → Each {A = ℕ × Msg} (λ m. ServesNone a (acted acts (start d).server) m.1) (does a (acted acts (start d).server)).sent
