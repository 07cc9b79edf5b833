-- What a delivery needs in a phase, and that each leads on.
use Rattle.std.specs.Prelude.{◌≡◌, ℕ, true, false, ◌∷◌}
use Rattle.ec_wire.specs.declared.msg.Msg.{Msg}
use Rattle.ec_protocol.specs.Server.{serving, is_last_number}
use Rattle.ec_quiet.specs.OfDeliveries.Deliveries.{MayTake}
use Rattle.ec_quiet.specs.Phases.{Phase, InPhase}
use Rattle.ec_quiet.specs.Scenes.{Mail, Scene, delivered, is_for_server}
use Rattle.ec_quiet.specs.Works.{Work}
use Rattle.ec_quiet.specs.OfDeliveries.Coming.{Suits}
use Rattle.ec_quiet.specs.Goes.{GoesOn}

-- The server has what it needs of a message for it, and a clerk of one for it.
pub record CanTake (j : Work) (sc : Scene) (p : Phase) (m : ℕ × Msg) : Type 0 where
  pub number : is_for_server m.1 ≡ true → is_last_number (serving sc.server) ≡ false
  pub suits : is_for_server m.1 ≡ true → Suits m.0 m.1 sc.server
  pub may : is_for_server m.1 ≡ false → MayTake j sc p

-- Then each message that is the next one leads to a phase with less left.
abbrev pub DeliveriesLeadOn : Type 0
DeliveriesLeadOn = (j : Work) (sc : Scene) (p : Phase) (m : ℕ × Msg) (rest : Mail) → InPhase j sc p → CanTake j sc p m → sc.mail ≡ m ∷ rest → GoesOn j sc p (delivered m.0 m.1 rest sc)
