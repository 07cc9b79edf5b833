-- Each message of a phase was sent.
use Rattle.std.proofs.Common.{◌≡◌, refl, subst, ℕ, not, List, [], ◌∷◌, ◌++◌}
use Rattle.std.specs.Prelude.{Option, None, Some, Contains}
use Rattle.ec_base.specs.Tables.{at}
use Rattle.ec_history.specs.History.{Each}
use Rattle.ec_wire.specs.declared.msg.Msg.{Msg}
use Rattle.ec_protocol.specs.declared.world.Sent.{Sent}
use Rattle.ec_protocol.specs.declared.world.World.{World}
use Rattle.ec_coherence.specs.Steps.{Stands}
use Rattle.ec_coherence.specs.System.{System}
use Rattle.ec_quiet.specs.Phases.{InPhase, Phase, is_back, messages}
use Rattle.ec_quiet.specs.Scenes.{IsScene, Mail, Scene, letter, mail_of}
use Rattle.ec_quiet.specs.Works.{Work}
use Rattle.ec_coherence.proofs.ForClerk.Evict.{each-filter}

module _ (w : World) (g : System) (st : Stands w g) where
  abbrev AreSent : Mail → Type 0
  AreSent ms = Each {A = ℕ × Msg} (λ m. Contains g.pool m) ms

  in-letter : (n : ℕ) (o : Option Sent) → at n w.pool ≡ o → (rest : Mail) → AreSent rest → AreSent (letter o ++ rest)
  in-letter n None e rest a = a
  in-letter n (Some s) e rest a = (st.pool n s.clerk s.nth s.msg e, a)

  in-mail : (ns : List ℕ) → AreSent (mail_of w.pool ns)
  in-mail [] = tt
  in-mail (n ∷ ns) = in-letter n (at n w.pool) refl (mail_of w.pool ns) (in-mail ns)

  module _ (sc : Scene) (scene : IsScene w sc) (j : Work) (p : Phase) (ip : InPhase j sc p) where
    pub messages-sent : AreSent (messages j sc p)
    messages-sent = subst AreSent ip.main_is (each-filter (λ m. Contains g.pool m) (λ m. not (is_back j m)) sc.mail (subst AreSent scene.mail (in-mail w.pending)))
