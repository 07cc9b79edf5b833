-- A batch of a holder is durable.
use Rattle.std.proofs.Common.{◌≡◌, refl, ap, ℕ, Bool, true, false, [], ◌∷◌, inr}
use Rattle.std.specs.Prelude.{◌==◌, is_some}
use Rattle.ec_base.specs.declared.ids.Hold.{Hold}
use Rattle.ec_volume.specs.Volume.{Images}
use Rattle.ec_sessions.specs.OfTokens.Tokens.{Holder}
use Rattle.ec_sessions.specs.OfRecall.Due.{recall_to}
use Rattle.ec_wire.specs.declared.msg.Msg.TheVariants as msg
use Rattle.ec_log.specs.Log as log
use Rattle.ec_protocol.specs.Clerk.{Doing, doing, is_session, settle, with_log}
use Rattle.ec_protocol.specs.declared.clerk.Clerk.{Clerk}
use Rattle.ec_quiet.specs.Facts.{session_clerk}
use Rattle.ec_quiet.specs.Phases.{Keeps, InPhase, IsNoted, IsRecalled}
use Rattle.ec_quiet.specs.Scenes.{Mail, Scene, delivered}
use Rattle.ec_quiet.specs.Works.{Work}
use Rattle.ec_quiet.proofs.OfDeliveries.Recalling as recalling
use Rattle.ec_quiet.proofs.OfDeliveries.Saving.{none-left}
use Rattle.ec_quiet.specs.OfDeliveries.PhasesBehind.{BatchesAreAsked, IsBehind}
use Rattle.ec_quiet.proofs.OfDeliveries.ForWriteBehind.Picked.{none-fine}
use Rattle.ec_quiet.proofs.OfDeliveries.ForWriteBehind.Stepped.{recall-steps}
use Rattle.ec_quiet.proofs.OfDeliveries.ForWriteBehind.Moved.{to-clerk}

module _ (v : Images) (j : Work) (sc : Scene) (fine : IsBehind v j sc) where
  abbrev e : ℕ
  e = sc.server.durable.epoch

  -- Its batch is durable.
  module _ (x : ℕ) (h : Hold) (r : Holder) (b : ℕ) (more : Bool) (ip : InPhase j sc (Keeps x h r b more)) where
    abbrev c : ℕ
    c = session_clerk sc.server r.0

    abbrev noted : IsNoted j sc x h (r ∷ [])
    noted = ip.facts.0

    abbrev s : IsRecalled 0 sc x h r b more
    s = ip.facts.1

    abbrev k : Clerk
    k = s.clerk

    other : (c == j.clerk) ≡ false
    other = recalling.another j sc x h r [] [] ip.orderly noted

    kept : (z : Bool) → BatchesAreAsked v j c (settle (elim z as (λ z. Doing) [ true ↦ with_log (log.kept b) (doing k) | false ↦ doing k ])).clerk.log
    kept true = recall-steps v j c (with_log (log.kept b) (doing k)) (ap is_some s.inside.session) s.waiting (record { obj = x; number = r.2; to = recall_to h }) s.recalls s.pushes (inr (other, x, refl, noted.wanting.touched))
        (none-fine v j c (log.kept b k.log) (none-left k.log b s.sending.numbers s.sending.alone))
    kept false = recall-steps v j c (doing k) (ap is_some s.inside.session) s.waiting (record { obj = x; number = r.2; to = recall_to h }) s.recalls s.pushes (inr (other, x, refl, noted.wanting.touched)) (fine c k s.there)

    pub keeps : (rest : Mail) → IsBehind v j (delivered c (msg.Kept r.0 e b) rest sc)
    keeps rest = to-clerk v j sc fine c (msg.Kept r.0 e b) rest refl k s.there (kept (is_session r.0 k.session))
