-- Ids come.
use Rattle.std.proofs.Common.{◌≡◌, refl, sym, ap, ◌∙◌, ℕ, false}
use Rattle.std.specs.Prelude.{Some, nat_le}
use Rattle.ec_volume.specs.Volume.{Images}
use Rattle.ec_sessions.specs.Limits.{ids_per_grant, last_grants}
use Rattle.ec_sessions.specs.Slots.{run}
use Rattle.ec_wire.specs.declared.msg.Msg.TheVariants as msg
use Rattle.ec_protocol.specs.Clerk.{add_ids, doing, taken, with_clerk}
use Rattle.ec_protocol.specs.declared.clerk.Clerk.{Clerk}
use Rattle.ec_quiet.specs.Phases.{Gives, InPhase, IsAsking}
use Rattle.ec_quiet.specs.Scenes.{Mail, Scene, delivered}
use Rattle.ec_quiet.specs.Works.{Work}
use Rattle.ec_quiet.specs.Goes.{MayGo}
use Rattle.ec_quiet.proofs.Begun as begun
use Rattle.ec_quiet.specs.OfDeliveries.PhasesBehind.{IsBehind}
use Rattle.ec_quiet.proofs.OfDeliveries.ForWriteBehind.Moved.{by-taken, may-step, to-clerk, unsaving}

module _ (v : Images) (j : Work) (sc : Scene) (fine : IsBehind v j sc) where
  abbrev e : ℕ
  e = sc.server.durable.epoch

  -- Ids come.
  module _ (got n first : ℕ) (ip : InPhase j sc (Gives got n first)) where
    abbrev s : IsAsking (run first ids_per_grant) j sc ip.facts.2 ip.facts.1
    s = ip.facts.3

    abbrev k : Clerk
    k = s.clerk

    pub gives : nat_le last_grants got ≡ false → MayGo j (add_ids n first k) → (rest : Mail) → IsBehind v j (delivered j.clerk (msg.Ids j.session e got n first) rest sc)
    gives few may rest = to-clerk v j sc fine j.clerk (msg.Ids j.session e got n first) rest refl k s.working.there
        (by-taken v j sc fine j.clerk (msg.Ids j.session e got n first) k (with_clerk (add_ids n first) (doing k))
        (ap (λ g. taken (msg.Ids j.session e g n first) (doing k)) ip.facts.4 ∙ begun.ids j.session e k (s.working.inside.session ∙ ap Some s.working.session, s.working.inside.epoch) n first (ap (nat_le last_grants) (sym ip.facts.4) ∙ few))
        (may-step v j (with_clerk (add_ids n first) (doing k)) may (unsaving v j (add_ids n first k) may s.makes) s.working.recalls s.batches))
