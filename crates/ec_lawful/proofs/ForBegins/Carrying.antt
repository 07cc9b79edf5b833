-- A step under way of a clerk in its session goes on with all facts, where the session's and the other ones do.
use Rattle.std.proofs.Common.{◌≡◌, refl, sym, subst, ◌∙◌, inl, inr, ℕ, [], append-nil}
use Rattle.std.specs.Prelude.{Some}
use Rattle.ec_history.specs.History.{Each}
use Rattle.ec_protocol.specs.Clerk.{Doing}
use Rattle.ec_coherence.specs.System.{System, Ghost}
use Rattle.ec_coherence.specs.Steps.{doing_in}
use Rattle.ec_coherence.proofs.ForBatches.ClerkIn.{start-same}
use Rattle.ec_coherence.proofs.ForServer.Tables.{same_some}
use Rattle.ec_coherence.specs.StandLaws.{IsUnderWay}
use Rattle.ec_lawful.specs.OfClerkSteps.CallLaws.{IsQuiet}
use Rattle.ec_lawful.specs.OfClerkSteps.Waits.{AreInTurn, HasLine}
use Rattle.ec_lawful.proofs.OfClerkSteps.ForCalls.Quiet.{quiet-calls, quiet-lines}
use Rattle.ec_lawful.specs.OfClerkSteps.Cuts.{CutsAgree}
use Rattle.ec_lawful.specs.OfClerkSteps.DoingLaws.{IsInHand}
use Rattle.ec_coherence.specs.CommitLaws.{AllAgree}
use Rattle.ec_lawful.specs.OfClerkSteps.Moves.{IsStill}
use Rattle.ec_lawful.specs.Fresh.{FreshAgrees}
use Rattle.ec_lawful.proofs.ForWhole.FreshSteps.{step-fresh}
use Rattle.ec_lawful.specs.Whole.{ShowsAll}
use Rattle.ec_lawful.specs.OfClerkSteps.Frees.{FreesAgree}
use Rattle.ec_lawful.specs.OfClerkSteps.Trying.{IsTrying}
use Rattle.ec_lawful.specs.OfClerkSteps.Zeros.{HasNoZero}
use Rattle.ec_lawful.proofs.OfClerkSteps.ForNames.ZerosBehind.{steps-keep}
use Rattle.ec_lawful.specs.SettleLaws.{IsLined}
use Rattle.ec_base.proofs.Options.{none_some}

-- in a session the step is in hand
pub in-hand : (g : System) (c b s : ℕ) (d : Doing) (γ : Ghost) → IsTrying g c b d γ → d.clerk.session ≡ Some s → IsInHand g c b s d γ
in-hand g c b s d γ t session = elim t.place [
  | inl none ↦ absurd (none_some (sym none ∙ session))
  | inr u ↦ record { under_way = subst (λ z. IsUnderWay g c b z d γ) (same_some (sym (u.1).session ∙ session)) u.1; orderly = t.orderly; names = t.names }
]

-- its clerk has nothing of the id 0
pub no-zero : (g : System) (c b : ℕ) (d : Doing) (γ : Ghost) → IsTrying g c b d γ → HasNoZero d.clerk
no-zero g c b d γ t = (t.zeros).clerks c b d.clerk (start-same c b d.clerk g.clerks)

-- lines show the same, where the clerk goes on with the ids that it has
pub same-shows : (g : System) (c b : ℕ) (d e : Doing) (γ : Ghost) → IsTrying g c b d γ → AllAgree (doing_in c b e γ g) → IsStill d.clerk e.clerk → ShowsAll (doing_in c b d γ g) → ShowsAll (doing_in c b e γ g)
same-shows g c b d e γ t after still s = record {
  tells = record { told = s.tells.told; fronts = s.tells.fronts };
  fresh = step-fresh g c b d e γ γ (((t.stands).0).invariant, (t.stands).1, (t.stands).2, (t.stands).3) after t.names [] tt (sym (append-nil γ.shown)) refl refl refl (inl still) s.fresh;
}

module _ (g : System) (c b s : ℕ) (d e : Doing) (γ : Ghost) (t : IsTrying g c b d γ) (h : IsInHand g c b s e γ) (quiet : IsQuiet d e) (zero : HasNoZero e.clerk) (frees : FreesAgree (doing_in c b e γ g)) (cuts : CutsAgree (doing_in c b e γ g)) where
  pub goes-on : AreInTurn (doing_in c b e γ g) c e.clerk → IsTrying g c b e γ
  goes-on turn = record {
    stands = (h.under_way).stands;
    place = inr (s, h.under_way);
    calls = quiet-calls g c b d e γ quiet t.calls;
    turn = turn;
    orderly = h.orderly;
    names = h.names;
    zeros = steps-keep g c b d e γ γ (record { origin = refl; kept = refl; frozen = refl; next_id = refl; grants = refl; first = refl }) zero t.zeros;
    frees = frees;
    cuts = cuts;
  }

  pub goes-lined : Each (HasLine (doing_in c b d γ g) c) d.clerk.waiting → ShowsAll (doing_in c b d γ g) → FreshAgrees (doing_in c b e γ g) → IsLined g c b e γ
  goes-lined lines s fresh = let now = quiet-lines g c b d e γ quiet lines in record { trying = goes-on (inl now); lines = now; shows = record { tells = record { told = s.tells.told; fronts = s.tells.fronts }; fresh = fresh } }

  -- with the ids that it has
  pub still-lined : Each (HasLine (doing_in c b d γ g) c) d.clerk.waiting → ShowsAll (doing_in c b d γ g) → IsStill d.clerk e.clerk → IsLined g c b e γ
  still-lined lines s still = let st = (h.under_way).stands in goes-lined lines s (same-shows g c b d e γ t ((st.0).invariant, st.1, st.2, st.3) still s).fresh
