-- Pushed closures are asked for.
use Rattle.std.proofs.Common.{refl, ℕ, Bool, true, false, List, [], ◌∷◌, ◌++◌}
use Rattle.ec_log.specs.declared.state.Asked.TheVariants as asked
use Rattle.ec_protocol.specs.Clerk.{Doing, ask_for, ask_pushes, is_settled, keep_push, try_pushes}
use Rattle.ec_protocol.specs.declared.clerk.Clerk.{Clerk}
use Rattle.ec_coherence.specs.System.{System, Ghost}
use Rattle.ec_coherence.specs.Tokens.{view}
use Rattle.ec_coherence.specs.Steps.{doing_in}
use Rattle.ec_coherence.proofs.ForClerk.Goes.{goes-rest}
use Rattle.ec_lawful.specs.OfClerkSteps.DoingLaws.{IsInHand}
use Rattle.ec_lawful.proofs.OfClerkSteps.ForDoings.CacheLogs as kept
use Rattle.ec_lawful.proofs.OfClerkSteps.ForDoings.Hand as hand
use Rattle.ec_lawful.proofs.OfClerkSteps.ForDoings.Moving as moving

module _ (g : System) (c b s : ℕ) (γ : Ghost) where
  -- the pushes become these
  pub pushes-are : (ns : List ℕ) (d : Doing) → IsInHand g c b s d γ → IsInHand g c b s (record d { clerk = record (d.clerk) { pushes = ns } }) γ
  pushes-are ns d h =
      let u = h.under_way in
      let all = moving.all g c b s d γ u in
      let now : Clerk = record (d.clerk) { pushes = ns } in
      let here = doing_in c b d γ g in
      hand.still g c b s d γ h (record d { clerk = now })
      (moving.changes g c b s d γ u now (record { id = refl; age = refl; session = refl; owed = refl; next = refl }) (goes-rest (view (record g { ghost = γ })) c s d d (moving.goes g c b s d γ u) now refl refl).agree
      (kept.held-both here (all.0).logs (all.0).images c s u.age d.clerk now (moving.its g c b s d γ u) refl refl refl refl here.calls []
      (kept.all-stay here (all.0).logs (all.0).images c s u.age d.clerk now (moving.its g c b s d γ u) refl refl refl refl here.calls [] (λ x w. w))
      (λ x o e. (all.0).images.licences s x d.clerk (moving.there g c b s d γ u) o e) tt))
      (hand.keyed g c b s d γ h) (hand.trim g c b s d γ h) refl (λ i. i)

  pub keeps-push : (n : ℕ) (d : Doing) → IsInHand g c b s d γ → IsInHand g c b s (keep_push n d) γ
  keeps-push n d h = pushes-are (d.clerk.pushes ++ n ∷ []) d h

  tries : (ns : List ℕ) (d : Doing) → IsInHand g c b s d γ → IsInHand g c b s (try_pushes ns d) γ
  tries [] d h = h
  tries (n ∷ ns) d h = tries ns _ (go (is_settled (asked.Op n) d.clerk))
    where
      go : (z : Bool) → IsInHand g c b s (elim z as (λ y. Doing) [ true ↦ d | false ↦ ask_for (asked.Op n) (keep_push n d) ]) γ
      go true = h
      go false = hand.asks g c b s (keep_push n d) γ (keeps-push n d h) (asked.Op n)

  pub asks-pushes : (d : Doing) → IsInHand g c b s d γ → IsInHand g c b s (ask_pushes d) γ
  asks-pushes d h = tries d.clerk.pushes (record d { clerk = record (d.clerk) { pushes = [] } }) (pushes-are [] d h)
