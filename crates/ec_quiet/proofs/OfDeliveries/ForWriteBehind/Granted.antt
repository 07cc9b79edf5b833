-- A token is granted.
use Rattle.std.proofs.Common.{refl, ap, ◌∙◌, ℕ, [], ◌∷◌}
use Rattle.std.specs.Prelude.{Some}
use Rattle.ec_base.specs.declared.ids.Hold.{Hold}
use Rattle.ec_volume.specs.Volume.{Images, images}
use Rattle.ec_wire.specs.declared.msg.Msg.TheVariants as msg
use Rattle.ec_protocol.specs.declared.clerk.Clerk.{Clerk}
use Rattle.ec_quiet.specs.Phases.{Grants, InPhase, IsWanting}
use Rattle.ec_quiet.specs.Scenes.{Mail, Scene, delivered}
use Rattle.ec_quiet.specs.Works.{Work}
use Rattle.ec_quiet.specs.Goes.{MayGo}
use Rattle.ec_quiet.specs.Takings.{taking}
use Rattle.ec_quiet.proofs.Begun as begun
use Rattle.ec_quiet.specs.OfDeliveries.PhasesBehind.{IsBehind, Sees}
use Rattle.ec_quiet.proofs.OfDeliveries.ForWriteBehind.Moved.{by-taken, may-step, to-clerk}

module _ (v : Images) (j : Work) (sc : Scene) (fine : IsBehind v j sc) where
  abbrev e : ℕ
  e = sc.server.durable.epoch

  -- A token is granted.
  module _ (x : ℕ) (h : Hold) (n : ℕ) (ip : InPhase j sc (Grants x h n)) where
    abbrev s : IsWanting (x ∷ []) j sc x h ip.facts.2
    s = ip.facts.3

    abbrev k : Clerk
    k = s.clerk

    pub grants : MayGo j (taking x h n sc k).clerk → Sees v j (taking x h n sc k).clerk → (rest : Mail) → IsBehind v j (delivered j.clerk (msg.Grant j.session e x n h (images sc.server.durable.volume x)) rest sc)
    grants may sees rest = to-clerk v j sc fine j.clerk (msg.Grant j.session e x n h (images sc.server.durable.volume x)) rest refl k s.working.there
        (by-taken v j sc fine j.clerk (msg.Grant j.session e x n h (images sc.server.durable.volume x)) k (taking x h n sc k)
        (begun.grants j.session e k (s.working.inside.session ∙ ap Some s.working.session, s.working.inside.epoch) x n h (images sc.server.durable.volume x))
        (may-step v j (taking x h n sc k) may sees s.working.recalls s.batches))
