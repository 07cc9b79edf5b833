-- A session is opened.
use Rattle.std.proofs.Common.{◌≡◌, refl, sym, ap, ◌∙◌, subst, ℕ, Bool, true, false, not, ◌&&◌, [], inl, inr, ◌⊎◌}
use Rattle.std.specs.Prelude.{Some}
use Rattle.ec_base.specs.declared.ids.Age.{Age}
use Rattle.ec_base.specs.declared.ids.Hold.{Hold}
use Rattle.ec_volume.specs.Volume.{Images}
use Rattle.ec_plain.specs.declared.call.Call.{Call}
use Rattle.ec_plain.specs.declared.call.Outcome.{Outcome}
use Rattle.ec_wire.specs.declared.msg.Msg.TheVariants as msg
use Rattle.ec_log.specs.declared.state.Asked.{Asked}
use Rattle.ec_cache.specs.declared.resolve.verdict.Verdict.{Verdict}
use Rattle.ec_cache.specs.declared.resolve.verdict.Verdict.TheVariants.{Need, Done}
use Rattle.ec_protocol.specs.Clerk.{Doing, doing, has_session, same_age, send, settle, verdict, with_clerk}
use Rattle.ec_protocol.specs.declared.clerk.Clerk.{Clerk}
use Rattle.ec_protocol.specs.declared.clerk.Waiting.{Waiting}
use Rattle.ec_quiet.specs.Phases.{Opens, InPhase, IsStarting, Lacking}
use Rattle.ec_quiet.specs.Scenes.{Mail, Scene, delivered}
use Rattle.ec_quiet.specs.Works.{HasTask, NothingWaits, Calls, Work, asked_in}
use Rattle.ec_quiet.specs.OfDeliveries.PhasesBehind.{BatchesAreAsked, IsBehind}
use Rattle.ec_quiet.proofs.OfDeliveries.ForWriteBehind.Picked.{none-fine}
use Rattle.ec_quiet.proofs.OfDeliveries.ForWriteBehind.Stepped.{call-steps, nothing-steps}
use Rattle.ec_quiet.proofs.OfDeliveries.ForWriteBehind.Moved.{to-clerk}

module _ (v : Images) (j : Work) (sc : Scene) (fine : IsBehind v j sc) where
  abbrev e : ℕ
  e = sc.server.durable.epoch

  -- A session is opened.
  module _ (age : Age) (ip : InPhase j sc (Opens age)) where
    abbrev s : IsStarting j sc age
    s = ip.facts.1

    abbrev k : Clerk
    k = s.clerk

    none : k.log.batches ≡ []
    none = ap (λ l. l.batches) s.new.log

    -- the call lacks a token
    lacks : (d : Doing) → d.clerk.recalls ≡ [] → d.clerk.pushes ≡ k.pushes → d.clerk.waiting ≡ k.waiting → d.clerk.log ≡ k.log → ((cl : Call) → verdict cl d.clerk ≡ verdict cl k) → Lacking j k → BatchesAreAsked v j j.clerk (settle d).clerk.log
    lacks d recalls pushes waiting same like (task, cl, x, h, is, lack, touched) =
        let t : HasTask (Calls cl) k = subst (λ z. HasTask z k) is task in
        let w : Waiting = t.0 in
        let need : verdict w.call d.clerk ≡ Need x h = like w.call ∙ ap (λ z. verdict z k) t.2 ∙ lack in
        call-steps v j j.clerk d w recalls (pushes ∙ t.4) (waiting ∙ t.1) (ap (λ l. l.batches) same ∙ none) (λ o u done is suit. absurd (not-done x h o (sym need ∙ done))) (λ a f. absurd (not-asked w.call x h a (sym (ap (asked_in w.call) need) ∙ f)))
      where
        not-done : (x : ℕ) (h : Hold) (o : Outcome) → ◌≡◌ {A = Verdict} (Need x h) (Done o) → ⊥
        not-done x h o e = cc

        not-asked : (cl : Call) (x : ℕ) (h : Hold) (a : Asked) → asked_in cl (Need x h) ≡ Some a → ⊥
        not-asked cl x h a e = cc

    opened : (z : Bool) → BatchesAreAsked v j j.clerk (settle (elim z as (λ z. Doing) [ true ↦ send (msg.Claim j.session e []) (with_clerk (λ k. record k { session = Some j.session; epoch = e }) (doing k)) | false ↦ doing k ])).clerk.log
    opened true = go s.task
      where
        go : NothingWaits k ⊎ Lacking j k → BatchesAreAsked v j j.clerk (settle (send (msg.Claim j.session e []) (with_clerk (λ k. record k { session = Some j.session; epoch = e }) (doing k)))).clerk.log
        go (inl done) = nothing-steps v j j.clerk (send (msg.Claim j.session e []) (with_clerk (λ k. record k { session = Some j.session; epoch = e }) (doing k))) s.new.recalls done.1 done.0 (none-fine v j j.clerk k.log none)
        go (inr lack) = lacks (send (msg.Claim j.session e []) (with_clerk (λ k. record k { session = Some j.session; epoch = e }) (doing k))) s.new.recalls refl refl refl (λ cl. refl) lack
    opened false = go s.task
      where
        go : NothingWaits k ⊎ Lacking j k → BatchesAreAsked v j j.clerk (settle (doing k)).clerk.log
        go (inl done) = nothing-steps v j j.clerk (doing k) s.new.recalls done.1 done.0 (none-fine v j j.clerk k.log none)
        go (inr lack) = lacks (doing k) s.new.recalls refl refl refl (λ cl. refl) lack

    pub opens : (rest : Mail) → IsBehind v j (delivered j.clerk (msg.Opened age j.session e) rest sc)
    opens rest = to-clerk v j sc fine j.clerk (msg.Opened age j.session e) rest refl k s.there (opened (not (has_session k) && same_age age k.age))
