-- Each delivery leads on: to the server, or to a clerk.
use Rattle.std.proofs.Common.{◌≡◌, refl, ℕ, Bool, true, false, ◌∷◌}
use Rattle.ec_wire.specs.declared.msg.Msg.{Msg}
use Rattle.ec_quiet.proofs.OfDeliveries.ClerkDelivered.{all-go-on}
use Rattle.ec_quiet.specs.Phases.{Phase, InPhase}
use Rattle.ec_quiet.specs.Scenes.{Mail, Scene, delivered, is_for_server}
use Rattle.ec_quiet.specs.Works.{Work}
use Rattle.ec_quiet.proofs.OfDeliveries.ServerDelivered.{deliveries-go-on}
use Rattle.ec_quiet.specs.OfDeliveries.Leading.{CanTake}
use Rattle.ec_quiet.specs.Goes.{GoesOn}

pub deliveries-lead-on : (j : Work) (sc : Scene) (p : Phase) (m : ℕ × Msg) (rest : Mail) → InPhase j sc p → CanTake j sc p m → sc.mail ≡ m ∷ rest → GoesOn j sc p (delivered m.0 m.1 rest sc)
deliveries-lead-on j sc p m rest ip can mail = go (is_for_server m.1) refl
  where
    go : (b : Bool) → is_for_server m.1 ≡ b → GoesOn j sc p (delivered m.0 m.1 rest sc)
    go true e = deliveries-go-on j sc p m rest ip e (can.number e) (can.suits e) mail
    go false e = all-go-on j sc m rest e mail p ip (can.may e)
