-- The server has restarted: the clerk enters its epoch, claims what it holds, and sends what is outstanding again.
use Rattle.std.proofs.Common.{◌≡◌, refl, sym, ap, subst, ◌∙◌, arith, ◌≤◌, ◌<◌, ℕ, Bool, true, false, []}
use Rattle.std.specs.Prelude.{Option, None, Some, is_some, nat_lt}
use Rattle.ec_base.specs.Tables.{at}
use Rattle.ec_wire.specs.declared.msg.Msg.TheVariants.{Restarted}
use Rattle.ec_cache.specs.declared.state.Held.{Held}
use Rattle.ec_protocol.specs.Clerk.{Doing, claim, enter_epoch, epoch, hello, is_session, send_outstanding, take_restarted, taken, with_clerk}
use Rattle.ec_protocol.specs.declared.clerk.Clerk.{Clerk}
use Rattle.ec_coherence.specs.System.{System, Ghost}
use Rattle.ec_coherence.specs.Tokens.{Fits, IsWrite, view}
use Rattle.ec_coherence.specs.Steps.{doing_in}
use Rattle.ec_coherence.proofs.ForClerk.Caches.{at-numberless, bare}
use Rattle.ec_coherence.proofs.ForClerk.Keyed.{keyed-new-epoch}
use Rattle.ec_coherence.proofs.ForClerk.Restarted.{goes-epoch}
use Rattle.ec_coherence.proofs.ForServer.Tables.{same_some}
use Rattle.ec_lawful.specs.OfClerkSteps.DoingLaws.{IsInHand}
use Rattle.ec_lawful.proofs.OfClerkSteps.ForDoings.CacheLogs as kept
use Rattle.ec_lawful.proofs.OfClerkSteps.ForDoings.Hand as hand
use Rattle.ec_lawful.proofs.OfClerkSteps.ForDoings.Moving as moving
use Rattle.ec_lawful.proofs.OfClerkSteps.ForDoings.Outstanding.{all-again}
use Rattle.ec_base.proofs.Options.{none_some}

-- a token without its number is the same
bare-write : (o : Option Held) → IsWrite o → IsWrite (bare o)
bare-write None i = i
bare-write (Some d) i = i

bare-image : (o : Option Held) (d : Held) → bare o ≡ Some d → (p : Held) × (o ≡ Some p) × (d.image ≡ p.image)
bare-image None d e = absurd (none_some e)
bare-image (Some p) d e = (p, refl, ap (λ z. z.image) (sym (same_some e)))

module _ (g : System) (c b s : ℕ) (γ : Ghost) where
  abbrev InHand : Doing → Type 0
  InHand d = IsInHand g c b s d γ

  enters : (d : Doing) → InHand d → (a : ℕ) → d.clerk.epoch < a → a ≤ g.durable.epoch → InHand (with_clerk (enter_epoch a) d)
  enters d h a later reached =
      let u = h.under_way in
      let all = moving.all g c b s d γ u in
      let now : Clerk = enter_epoch a d.clerk in
      let its = moving.its g c b s d γ u in
      let here : System = doing_in c b d γ g in
      hand.still g c b s d γ h (with_clerk (enter_epoch a) d)
      (moving.changes g c b s d γ u now (record { id = refl; age = refl; session = refl; owed = refl; next = refl }) (goes-epoch (view (record g { ghost = γ })) c s d (omega arith) a d (moving.goes g c b s d γ u) later reached).agree
      (kept.held-both here (all.0).logs (all.0).images c s u.age d.clerk now its refl refl refl refl here.calls []
      (kept.all-stay here (all.0).logs (all.0).images c s u.age d.clerk now its refl refl refl refl here.calls [] (λ x w. subst IsWrite (sym (at-numberless x d.clerk.cache.held)) (bare-write (at x d.clerk.cache.held) w)))
      (λ x o e. let q = bare-image (at x d.clerk.cache.held) o (sym (at-numberless x d.clerk.cache.held) ∙ e) in q.2 ∙ (all.0).images.licences s x d.clerk (moving.there g c b s d γ u) q.0 q.1) tt))
      (keyed-new-epoch d.clerk.cache (hand.keyed g c b s d γ h)) (let m = hand.trim g c b s d γ h in (tt, m.1, m.2)) refl (λ i. i)

  again : (d : Doing) → InHand d → InHand (send_outstanding (claim d))
  again d h = all-again g c b s γ (claim d) (hand.claims g c b s d γ h)

  restarts : (d : Doing) → InHand d → (a : ℕ) → a ≤ g.durable.epoch → InHand (take_restarted a d)
  restarts d h a reached = go (nat_lt a (epoch d))
    where
      less : (x y : ℕ) → nat_lt x y ≡ true → x < y
      less x y p = grind arith

      enter : (z : Bool) → nat_lt (epoch d) a ≡ z → InHand (send_outstanding (claim (elim z as (λ y. Doing) [ true ↦ with_clerk (enter_epoch a) d | false ↦ d ])))
      enter true p = again (with_clerk (enter_epoch a) d) (enters d h a (less (epoch d) a p) reached)
      enter false p = again d h

      go : (z : Bool) → InHand (elim z as (λ y. Doing) [ true ↦ d | false ↦ send_outstanding (claim (elim (nat_lt (epoch d) a) as (λ y. Doing) [ true ↦ with_clerk (enter_epoch a) d | false ↦ d ])) ])
      go true = h
      go false = enter (nat_lt (epoch d) a) refl

  pub takes-restarted : (d : Doing) → InHand d → (t a : ℕ) → Fits (view (doing_in c b d γ g)) (Restarted t a) → InHand (taken (Restarted t a) d)
  takes-restarted d h t a f = subst (λ z. InHand (elim z as (λ y. Doing) [ false ↦ hello d | true ↦ elim (is_session t d.clerk.session) as (λ y. Doing) [ true ↦ take_restarted a d | false ↦ d ] ])) (sym (ap is_some (h.under_way).session)) (go (is_session t d.clerk.session))
    where
      go : (z : Bool) → InHand (elim z as (λ y. Doing) [ true ↦ take_restarted a d | false ↦ d ])
      go true = restarts d h a f
      go false = h

  pub resends : (d : Doing) → InHand d → InHand (send_outstanding (claim d))
  resends d h = again d h
