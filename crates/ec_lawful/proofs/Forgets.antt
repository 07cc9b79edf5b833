-- A clerk in its session forgets what it asked.
use Rattle.std.proofs.Common.{◌≡◌, refl, sym, ap, subst, ◌∙◌, inl, inr, ◌⊎◌, ℕ, Bool, true, false, T, List, [], ◌∷◌, ◌++◌, Option, Some, None}
use Rattle.ec_history.specs.History.{Each}
use Rattle.ec_protocol.specs.Clerk.{Doing}
use Rattle.ec_protocol.specs.declared.clerk.Clerk.{Clerk}
use Rattle.ec_coherence.specs.System.{System, Ghost}
use Rattle.ec_coherence.specs.Tokens.{view}
use Rattle.ec_coherence.specs.Steps.{doing_in}
use Rattle.ec_coherence.proofs.ForClerk.Goes.{goes-rest}
use Rattle.ec_coherence.proofs.ForBatches.ClerkIn.{start-same}
use Rattle.ec_coherence.proofs.ForServer.Tables.{same_some}
use Rattle.ec_coherence.specs.StandLaws.{IsUnderWay}
use Rattle.ec_lawful.specs.OfClerkSteps.CallLaws.{IsQuiet}
use Rattle.ec_lawful.specs.OfClerkSteps.Waits.{HasLine}
use Rattle.ec_lawful.proofs.OfClerkSteps.ForCalls.Quiet.{quiet-calls, quiet-lines}
use Rattle.ec_lawful.specs.OfClerkSteps.DoingLaws.{IsInHand}
use Rattle.ec_lawful.proofs.OfClerkSteps.ForDoings.CacheLogs as kept
use Rattle.ec_lawful.proofs.OfClerkSteps.ForDoings.Hand as hand
use Rattle.ec_lawful.proofs.OfClerkSteps.ForDoings.Moving as moving
use Rattle.ec_lawful.proofs.OfClerkSteps.ForJoins.Calm.{are-calm}
use Rattle.ec_lawful.proofs.OfClerkSteps.ForJoins.Going.{calm-keeps}
use Rattle.ec_lawful.proofs.OfClerkSteps.ForNames.ZerosBehind.{steps-keep}
use Rattle.ec_lawful.proofs.OfClerkSteps.ForDoings.FreesStored.{stills-keep}
use Rattle.ec_lawful.specs.OfClerkSteps.Trying.{IsTrying}
use Rattle.ec_lawful.specs.OfClerkSteps.Zeros.{HasNoZero}
use Rattle.ec_lawful.specs.Rooms.{unasked}
use Rattle.ec_base.proofs.Options.{none_some}

module _ (g : System) (c b s : ℕ) (d : Doing) (γ : Ghost) (t : IsTrying g c b d γ) (within : d.clerk.session ≡ Some s) where
  in-hand : IsInHand g c b s d γ
  in-hand = elim t.place [
    | inl none ↦ absurd (none_some (sym none ∙ within))
    | inr u ↦ record { under_way = subst (λ z. IsUnderWay g c b z d γ) (same_some (sym (u.1).session ∙ within)) u.1; orderly = t.orderly; names = t.names }
  ]

  now-in-hand : IsInHand g c b s (unasked d) γ
  now-in-hand =
      let u = in-hand.under_way in
      let all = moving.all g c b s d γ u in
      let now : Clerk = record (d.clerk) { asking = None } in
      let here = doing_in c b d γ g in
      hand.still g c b s d γ in-hand (record d { clerk = now })
      (moving.changes g c b s d γ u now (record { id = refl; age = refl; session = refl; owed = refl; next = refl }) (goes-rest (view (record g { ghost = γ })) c s d d (moving.goes g c b s d γ u) now refl refl).agree
      (kept.held-both here (all.0).logs (all.0).images c s u.age d.clerk now (moving.its g c b s d γ u) refl refl refl refl here.calls []
      (kept.all-stay here (all.0).logs (all.0).images c s u.age d.clerk now (moving.its g c b s d γ u) refl refl refl refl here.calls [] (λ x w. w))
      (λ x o e. (all.0).images.licences s x d.clerk (moving.there g c b s d γ u) o e) tt))
      (hand.keyed g c b s d γ in-hand) ((hand.trim g c b s d γ in-hand).0, (λ n. absurd n), (hand.trim g c b s d γ in-hand).2) refl (λ i. i)

  quiet : IsQuiet d (unasked d)
  quiet = record { waiting = refl; calls = refl; next = refl; first = refl; own = λ n x. x; outs = λ c calls. refl }

  zero : HasNoZero (unasked d).clerk
  zero = let z = (t.zeros).clerks c b d.clerk (start-same c b d.clerk g.clerks) in record { ids = z.ids; undurable = z.undurable; owed = z.owed }

  pub forgets : Each (HasLine (doing_in c b d γ g) c) d.clerk.waiting → IsTrying g c b (unasked d) γ × Each (HasLine (doing_in c b (unasked d) γ g) c) d.clerk.waiting
  forgets lines = (
    record {
      stands = (now-in-hand.under_way).stands;
      place = inr (s, now-in-hand.under_way);
      calls = quiet-calls g c b d (unasked d) γ quiet t.calls;
      turn = inl (quiet-lines g c b d (unasked d) γ quiet lines);
      orderly = now-in-hand.orderly;
      names = now-in-hand.names;
      zeros = steps-keep g c b d (unasked d) γ γ (record { origin = refl; kept = refl; frozen = refl; next_id = refl; grants = refl; first = refl }) zero t.zeros;
      frees = stills-keep g c b d γ t.frees (unasked d) γ refl refl refl refl refl (inl (refl, refl, refl));
      cuts = calm-keeps g c b d (unasked d) γ (are-calm.rest d (unasked d) refl refl) t.cuts;
    },
    quiet-lines g c b d (unasked d) γ quiet lines,
  )
