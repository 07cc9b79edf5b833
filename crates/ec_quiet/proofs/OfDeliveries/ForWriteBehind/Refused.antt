-- There is no room for ids.
use Rattle.std.proofs.Common.{◌≡◌, refl, ap, ◌∙◌, ℕ, Bool, true, false, List, [], inl}
use Rattle.std.specs.Prelude.{Option, None, Some}
use Rattle.std.proofs.lemmas.Bool.{eq-eqb}
use Rattle.ec_volume.specs.Volume.{Images}
use Rattle.ec_wire.specs.declared.msg.Msg.TheVariants as msg
use Rattle.ec_protocol.specs.Clerk.{Doing, doing, idless, is_session, keep_call, refuse_make, refuse_makes, settle, taken, verdict, with_clerk}
use Rattle.ec_protocol.specs.declared.clerk.Clerk.{Clerk}
use Rattle.ec_protocol.specs.declared.clerk.Waiting.{Waiting}
use Rattle.ec_quiet.specs.Phases.{Refuses, InPhase, IsAsking}
use Rattle.ec_quiet.specs.Scenes.{Mail, Scene, delivered}
use Rattle.ec_quiet.specs.Works.{Work, asked}
use Rattle.ec_quiet.specs.Goes.{MayGo}
use Rattle.ec_quiet.specs.OfDeliveries.Deliveries.{unasking}
use Rattle.ec_quiet.specs.OfDeliveries.PhasesBehind.{BatchesAreAsked, IsBehind}
use Rattle.ec_quiet.proofs.OfDeliveries.ForWriteBehind.Stepped.{call-steps, nothing-steps}
use Rattle.ec_quiet.proofs.OfDeliveries.ForWriteBehind.Moved.{by-taken, to-clerk, unsaving}

module _ (v : Images) (j : Work) (sc : Scene) (fine : IsBehind v j sc) where
  abbrev e : ℕ
  e = sc.server.durable.epoch

  -- There is no room.
  module _ (again : Bool) (ask live reserved : ℕ) (ip : InPhase j sc (Refuses again ask live reserved)) where
    abbrev s : IsAsking [] j sc again ask
    s = ip.facts.1

    abbrev k : Clerk
    k = s.clerk

    abbrev cleared : Doing
    cleared = with_clerk (λ k. record k { asking = None; waiting = [] }) (doing k)

    module _ (may : MayGo j (unasking k)) where
      abbrev w : Waiting
      w = may.call

      takes : taken (msg.NoRoom j.session e ask live reserved) (doing k) ≡ elim (idless (verdict w.call k)) as (λ z. Doing) [ Some xs ↦ refuse_make live reserved w.no xs cleared | None ↦ keep_call w cleared ]
      takes = ap (λ o. elim (is_session ask o) as (λ z. Doing) [ true ↦ refuse_makes live reserved k.waiting cleared | false ↦ doing k ]) s.asking
          ∙ ap (λ b. elim b as (λ z. Doing) [ true ↦ refuse_makes live reserved k.waiting cleared | false ↦ doing k ]) (eq-eqb ask ask refl)
          ∙ ap (λ ws. refuse_makes live reserved ws cleared) may.waits.waiting

      refused : (o : Option (List ℕ)) → BatchesAreAsked v j j.clerk (settle (elim o as (λ z. Doing) [ Some xs ↦ refuse_make live reserved w.no xs cleared | None ↦ keep_call w cleared ])).clerk.log
      refused (Some xs) = nothing-steps v j j.clerk (refuse_make live reserved w.no xs cleared) s.working.recalls may.waits.pushes refl (fine j.clerk k s.working.there)
      refused None = call-steps v j j.clerk (keep_call w cleared) w s.working.recalls may.waits.pushes refl s.batches (λ o u done is suit. (may.waits.issues o u done is).1)
          (λ a f. inl (refl, unsaving v j (unasking k) may s.makes a (ap (λ t. asked t (unasking k)) may.is ∙ f)))

      pub refuses : (rest : Mail) → IsBehind v j (delivered j.clerk (msg.NoRoom j.session e ask live reserved) rest sc)
      refuses rest = to-clerk v j sc fine j.clerk (msg.NoRoom j.session e ask live reserved) rest refl k s.working.there
          (by-taken v j sc fine j.clerk (msg.NoRoom j.session e ask live reserved) k (elim (idless (verdict w.call k)) as (λ z. Doing) [ Some xs ↦ refuse_make live reserved w.no xs cleared | None ↦ keep_call w cleared ]) takes (refused (idless (verdict w.call k))))
