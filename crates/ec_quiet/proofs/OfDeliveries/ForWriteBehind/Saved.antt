-- A batch of the line's clerk is durable.
use Rattle.std.proofs.Common.{◌≡◌, refl, ap, ◌∙◌, subst, ℕ, Bool, [], inl}
use Rattle.std.specs.Prelude.{Some, is_some}
use Rattle.ec_volume.specs.Volume.{Images}
use Rattle.ec_wire.specs.declared.msg.Msg.TheVariants as msg
use Rattle.ec_log.specs.Log as log
use Rattle.ec_protocol.specs.Clerk.{Doing, doing, settle, with_log}
use Rattle.ec_protocol.specs.declared.clerk.Clerk.{Clerk}
use Rattle.ec_quiet.specs.Phases.{Saved, InPhase, IsSaving}
use Rattle.ec_quiet.specs.Scenes.{Mail, Scene, delivered}
use Rattle.ec_quiet.specs.Works.{HasTask, Task, Calls, Pushes, Work}
use Rattle.ec_quiet.proofs.Begun as begun
use Rattle.ec_quiet.specs.OfDeliveries.Deliveries.{MaySave, having_kept}
use Rattle.ec_quiet.proofs.OfDeliveries.Saving.{none-left}
use Rattle.ec_quiet.specs.OfDeliveries.PhasesBehind.{BatchesAreAsked, IsBehind, Sees, saved}
use Rattle.ec_quiet.proofs.OfDeliveries.ForWriteBehind.Picked.{none-fine}
use Rattle.ec_quiet.proofs.OfDeliveries.ForWriteBehind.Stepped.{push-steps}
use Rattle.ec_quiet.proofs.OfDeliveries.ForWriteBehind.Moved.{by-taken, may-step, to-clerk}

module _ (v : Images) (j : Work) (sc : Scene) (fine : IsBehind v j sc) where
  abbrev e : ℕ
  e = sc.server.durable.epoch

  -- A batch of the line's clerk is durable.
  module _ (b : ℕ) (more : Bool) (ip : InPhase j sc (Saved b more)) where
    abbrev s : IsSaving 0 j sc b more
    s = ip.facts.1

    abbrev k : Clerk
    k = s.clerk

    abbrev d : Doing
    d = with_log (log.kept b) (doing k)

    none : d.clerk.log.batches ≡ []
    none = none-left k.log b s.sending.numbers s.sending.alone

    by-task : (t : Task) → j.task ≡ t → MaySave t j b k → Sees v j (having_kept b k) → BatchesAreAsked v j j.clerk (settle d).clerk.log
    by-task (Calls cl) is may sees = may-step v j d may sees s.working.recalls none
    by-task (Pushes n) is may sees =
        let task : HasTask (Pushes n) k = subst (λ t. HasTask t k) is s.task in
        push-steps v j j.clerk d (ap is_some s.working.inside.session) task.0 n s.working.recalls task.1 (inl (refl, ap (saved v) is)) (none-fine v j j.clerk (log.kept b k.log) none)

    pub saves : MaySave j.task j b k → Sees v j (having_kept b k) → (rest : Mail) → IsBehind v j (delivered j.clerk (msg.Kept j.session e b) rest sc)
    saves may sees rest = to-clerk v j sc fine j.clerk (msg.Kept j.session e b) rest refl k s.working.there
        (by-taken v j sc fine j.clerk (msg.Kept j.session e b) k d (begun.keeps j.session e k (s.working.inside.session ∙ ap Some s.working.session, s.working.inside.epoch) b e) (by-task j.task refl may sees))
