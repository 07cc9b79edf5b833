-- A step of one clerk, where all that is under way to be durable is what a line asks for.
use Rattle.std.proofs.Common.{◌≡◌, refl, sym, ap, ◌∙◌, subst, arith, ℕ, Bool, true, false, [], inl}
use Rattle.std.specs.Prelude.{Option, Some, ◌==◌}
use Rattle.std.proofs.lemmas.Bool.{eqb-true}
use Rattle.ec_base.specs.Tables.{at, put}
use Rattle.ec_volume.specs.Volume.{Images}
use Rattle.ec_wire.specs.declared.msg.Msg.{Msg}
use Rattle.ec_protocol.specs.Clerk.{Doing, doing, settle, taken, verdict}
use Rattle.ec_protocol.specs.declared.clerk.Clerk.{Clerk}
use Rattle.ec_quiet.specs.Scenes.{Mail, Scene, delivered, done_by, is_for_server, served, taken_by}
use Rattle.ec_quiet.specs.Works.{Work, asked, is_saving}
use Rattle.ec_quiet.specs.Goes.{MayGo}
use Rattle.ec_quiet.proofs.Beside.{other-at, own-at}
use Rattle.ec_quiet.proofs.Going.{asked-saves}
use Rattle.ec_quiet.specs.OfDeliveries.PhasesBehind.{BatchesAreAsked, IsBehind, Sees}
use Rattle.ec_quiet.proofs.OfDeliveries.ForWriteBehind.Stepped.{call-steps}

-- A call that may go, and sees what it saves.
module _ (v : Images) (j : Work) (d : Doing) (may : MayGo j d.clerk) (sees : Sees v j d.clerk) where
  pub may-step : d.clerk.recalls ≡ [] → d.clerk.log.batches ≡ [] → BatchesAreAsked v j j.clerk (settle d).clerk.log
  may-step recalls none = call-steps v j j.clerk d may.call recalls may.waits.pushes may.waits.waiting none
      (λ o u done is suit. (may.waits.issues o u done is).1) (λ a f. inl (refl, sees a (ap (λ t. asked t d.clerk) may.is ∙ f)))

module _ (v : Images) (j : Work) where
  -- A call that makes an object saves nothing.
  pub unsaving : (k : Clerk) → MayGo j k → is_saving j.task ≡ false → Sees v j k
  unsaving k may makes a f = absurd (apart (sym (asked-saves may.call.call (verdict may.call.call k) a (ap (λ t. asked t k) (sym may.is) ∙ f)) ∙ ap is_saving (sym may.is) ∙ makes))
    where
      apart : true ≡ false → ⊥
      apart p = grind (arith, p)

module _ (v : Images) (j : Work) (sc : Scene) (fine : IsBehind v j sc) where
  -- a clerk's step leaves the others
  pub stepped : (c : ℕ) (d : Doing) (mail : Mail) → BatchesAreAsked v j c d.clerk.log → IsBehind v j (done_by c d mail sc)
  stepped c d mail f a k there = go (a == c) refl
    where
      some-same : (y z : Clerk) → ◌≡◌ {A = Option Clerk} (Some y) (Some z) → y ≡ z
      some-same y z p = cc

      go : (z : Bool) → (a == c) ≡ z → BatchesAreAsked v j a k.log
      go true e =
          let same : a ≡ c = eqb-true a c e in
          let k-is : d.clerk ≡ k = some-same d.clerk k (sym (own-at c d.clerk sc.clerks) ∙ ap (λ z. at z (put c d.clerk sc.clerks)) (sym same) ∙ there) in
          subst (λ z. BatchesAreAsked v j z k.log) (sym same) (subst (λ z. BatchesAreAsked v j c z.log) k-is f)
      go false e = fine a k (sym (other-at c d.clerk sc.clerks a e) ∙ there)

  pub to-server : (m : ℕ × Msg) (rest : Mail) → is_for_server m.1 ≡ true → IsBehind v j (delivered m.0 m.1 rest sc)
  to-server m rest e = subst (IsBehind v j) (sym (ap (λ b. elim b as (λ z. Scene) [ true ↦ served m.0 m.1 rest sc | false ↦ taken_by m.0 m.1 rest (at m.0 sc.clerks) sc ]) e)) fine

  pub to-clerk : (c : ℕ) (m : Msg) (rest : Mail) → is_for_server m ≡ false → (k : Clerk) → at c sc.clerks ≡ Some k → BatchesAreAsked v j c (settle (taken m (doing k))).clerk.log → IsBehind v j (delivered c m rest sc)
  to-clerk c m rest side k there f =
      subst (IsBehind v j) (sym (ap (λ b. elim b as (λ z. Scene) [ true ↦ served c m rest sc | false ↦ taken_by c m rest (at c sc.clerks) sc ]) side ∙ ap (λ o. taken_by c m rest o sc) there))
      (stepped c (settle (taken m (doing k))) rest f)

  -- the step behind what the message says
  pub by-taken : (c : ℕ) (m : Msg) (k : Clerk) (d : Doing) → taken m (doing k) ≡ d → BatchesAreAsked v j c (settle d).clerk.log → BatchesAreAsked v j c (settle (taken m (doing k))).clerk.log
  by-taken c m k d t f = subst (λ z. BatchesAreAsked v j c (settle z).clerk.log) (sym t) f
