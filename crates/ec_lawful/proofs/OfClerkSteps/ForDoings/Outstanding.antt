-- What is outstanding goes out again: the needs of waiting calls, the room and the batches under way.
use Rattle.std.proofs.Common.{◌≡◌, refl, sym, ap, subst, ◌∙◌, ℕ, Bool, true, false, ◌==◌, cond, T, List, [], ◌∷◌}
use Rattle.std.specs.Prelude.{Option, None, Some, is_some}
use Rattle.ec_base.specs.Tables.{Table, at, keys}
use Rattle.ec_base.specs.declared.ids.Hold.{Hold}
use Rattle.ec_history.specs.History.{Each}
use Rattle.ec_wire.specs.Messages.{is_held_mode}
use Rattle.ec_protocol.specs.Clerk.{Doing, need_of, needs, resend_batches, resend_needs, resend_room, resend_want, send_batch, send_outstanding, verdict}
use Rattle.ec_protocol.specs.declared.clerk.Waiting.{Waiting}
use Rattle.ec_coherence.specs.System.{System, Ghost}
use Rattle.ec_coherence.specs.Tokens.{Names, view}
use Rattle.ec_coherence.specs.Steps.{doing_in}
use Rattle.ec_coherence.proofs.ForServer.Lists.{each-more, each-turn}
use Rattle.ec_lawful.specs.OfClerkSteps.DoingLaws.{IsInHand}
use Rattle.ec_lawful.proofs.OfClerkSteps.ForDoings.Hand.{again-clerk, name-on, sends-batch, sends-room, wants-again}
use Rattle.ec_lawful.proofs.OfClerkSteps.ForDoings.Moving as moving
use Rattle.ec_lawful.proofs.OfClerkSteps.ForDoings.Naming.{needs-named}
use Rattle.ec_base.proofs.Numbers.{same-self as same}
use Rattle.ec_coherence.proofs.ForClerk.CacheChange.{at-cons}

-- something is found at each key
keys-at : {X : Type 0} (es : Table X) → Each (λ k. T (is_some (at k es))) (keys es)
keys-at [] = tt
keys-at (e ∷ es) = (there e.0 (same e.0), each-turn (λ k. T (is_some (at k es))) (λ k. T (is_some (at k (e ∷ es)))) (keys es) later (keys-at es))
  where
    there : (k : ℕ) → (k == e.0) ≡ true → T (is_some (at k (e ∷ es)))
    there k p = subst (λ o. T (is_some o)) (sym (at-cons k e es ∙ ap (λ z. cond z (Some e.1) (at k es)) p)) tt

    later : (k : ℕ) → T (is_some (at k es)) → T (is_some (at k (e ∷ es)))
    later k h = subst (λ o. T (is_some o)) (sym (at-cons k e es)) (go (k == e.0))
      where
        go : (z : Bool) → T (is_some (cond z (Some e.1) (at k es)))
        go true = tt
        go false = h

module _ (g : System) (c b s : ℕ) (γ : Ghost) where
  abbrev InHand : Doing → Type 0
  InHand d = IsInHand g c b s d γ

  abbrev Needed : Doing → ℕ × Hold → Type 0
  Needed d p = T (is_held_mode p.1) × Names (view (doing_in c b d γ g)) p.0

  pub all-needs : (ws : List Waiting) (d : Doing) → InHand d → Each (Needed d) (needs ws d.clerk)
  all-needs [] d h = tt
  all-needs (p ∷ ws) d h = each-more (Needed d) (need_of (verdict p.call d.clerk)) (needs ws d.clerk)
      (needs-named (doing_in c b d γ g) h.names ((moving.all g c b s d γ h.under_way).0).images s d.clerk (moving.there g c b s d γ h.under_way) p.call) (all-needs ws d h)

  needs-again : (sent ps : List (ℕ × Hold)) (d : Doing) → InHand d → Each (Needed d) ps → InHand (resend_needs sent ps d)
  needs-again sent [] d h n = h
  needs-again sent (p ∷ ps) d h n =
      let e = resend_want p.0 p.1 sent d in
      let i : InHand e = wants-again g c b s d γ h p.0 p.1 n.0.0 n.0.1 sent in
      needs-again (p ∷ sent) ps e i (each-turn (Needed d) (Needed e) ps (λ q f. (f.0, name-on g c b s d γ h e i (again-clerk (λ k. k.got ≡ d.clerk.got) p.0 p.1 sent d refl refl) q.0 f.1)) n.1)

  room-again : (d : Doing) → InHand d → (o : Option ℕ) → d.clerk.asking ≡ o → InHand (resend_room o d)
  room-again d h None e = h
  room-again d h (Some n) e = sends-room g c b s d γ h n ((h.orderly).asking (subst (λ o. T (is_some o)) (sym e) tt))

  batches-again : (bs : List ℕ) (d : Doing) → InHand d → Each (λ n. T (is_some (at n d.clerk.log.batches))) bs → InHand (resend_batches bs d)
  batches-again [] d h n = h
  batches-again (x ∷ bs) d h n = batches-again bs (send_batch x d) (sends-batch g c b s d γ h x n.0) n.1

  pub all-again : (d : Doing) → InHand d → InHand (send_outstanding d)
  all-again d h =
      let e = resend_needs [] (needs d.clerk.waiting d.clerk) d in
      let i : InHand e = needs-again [] (needs d.clerk.waiting d.clerk) d h (all-needs d.clerk.waiting d h) in
      batches-again (keys e.clerk.log.batches) (resend_room e.clerk.asking e) (room-again e i e.clerk.asking refl) (room-log e e.clerk.asking (keys-at e.clerk.log.batches))
    where
      room-log : (e : Doing) (o : Option ℕ) → Each (λ n. T (is_some (at n e.clerk.log.batches))) (keys e.clerk.log.batches) → Each (λ n. T (is_some (at n (resend_room o e).clerk.log.batches))) (keys e.clerk.log.batches)
      room-log e None f = f
      room-log e (Some n) f = f
