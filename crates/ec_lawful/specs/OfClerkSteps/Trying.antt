-- A clerk's step while it tries its waiting calls.
use Rattle.std.specs.Prelude.{◌≡◌, ◌≤◌, ◌⊎◌, ◌+◌, ℕ, T, length, Option, Some, None, is_some, List, ◌∷◌, ◌++◌}
use Rattle.ec_base.specs.Tables.{put}
use Rattle.ec_history.specs.History.{Op}
use Rattle.ec_history.specs.Placing.{place}
use Rattle.ec_history.specs.declared.entry.Answer.{Answer}
use Rattle.ec_history.specs.declared.shown.Shown.TheVariants.{Answered}
use Rattle.ec_plain.specs.declared.call.Call.{Call}
use Rattle.ec_protocol.specs.Clerk.{Doing}
use Rattle.ec_coherence.specs.System.{System, Ghost, at_session}
use Rattle.ec_coherence.specs.Steps.{doing_in}
use Rattle.ec_coherence.specs.StandLaws.{ClerkStands, IsUnderWay}
use Rattle.ec_lawful.specs.OfClerkSteps.Calls.{CallsAgree}
use Rattle.ec_lawful.specs.OfClerkSteps.Waits.{AreInTurn}
use Rattle.ec_lawful.specs.OfClerkSteps.Names.{NamesAgree}
use Rattle.ec_lawful.specs.OfClerkSteps.Orderly.{IsOrderly}
use Rattle.ec_lawful.specs.OfClerkSteps.Cuts.{CutsAgree}
use Rattle.ec_coherence.specs.Answers.{answered_ghost, fresh_of}
use Rattle.ec_coherence.specs.Comes.{ops_next}
use Rattle.ec_lawful.specs.OfClerkSteps.Frees.{FreesAgree}
use Rattle.ec_lawful.specs.OfClerkSteps.Zeros.{ZerosAgree}

-- It stands with all facts, in a session, whether it ended or not, or in none.
pub record IsTrying (g : System) (c b : ℕ) (d : Doing) (γ : Ghost) : Type 0 where
  pub stands : ClerkStands g c b d γ
  pub place : (d.clerk.session ≡ None) ⊎ ((s : ℕ) × IsUnderWay g c b s d γ)
  pub calls : CallsAgree (doing_in c b d γ g)
  pub turn : AreInTurn (doing_in c b d γ g) c d.clerk
  pub orderly : IsOrderly d.clerk
  pub names : NamesAgree (doing_in c b d γ g)
  pub zeros : ZerosAgree (doing_in c b d γ g)
  pub frees : FreesAgree (doing_in c b d γ g)
  pub cuts : CutsAgree (doing_in c b d γ g)

-- What the proof keeps behind the answer of a clerk that is cut off: the operation is frozen with what it saw.
abbrev pub late_ghost : ℕ → ℕ → List Op → ℕ → Call → Answer → Option ℕ → ℕ → List Op → Ghost → Ghost
late_ghost s c ks l cl a op x os γ =
    record γ {
      frozen = at_session s (Some (ks ++ os)) γ.frozen;
      shown = γ.shown ++ Answered l c cl a op ∷ Rattle.std.specs.Prelude.[];
      history = place (γ.shown ++ Answered l c cl a op ∷ Rattle.std.specs.Prelude.[]);
      fresh = put (length γ.shown + 1) x γ.fresh;
    }

-- The ghosts behind an answer of the clerk in d: of one that is cut off its session and what it saw.
abbrev pub AnswersWith : System → ℕ → ℕ → Doing → Ghost → ℕ → Call → Answer → Option ℕ → Ghost → Type 0
AnswersWith g c b d γ l cl a op δ =
    let here = doing_in c b d γ g in
    (δ ≡ answered_ghost c l cl a op (fresh_of d.clerk) (ops_next here c b cl d.clerk) γ)
    ⊎ ((s : ℕ) × (ks : List Op) × (γ.owner s ≡ Some (c, d.clerk.age)) × (γ.frozen s ≡ Some ks) × (δ ≡ late_ghost s c ks l cl a op (fresh_of d.clerk) (ops_next here c b cl d.clerk) γ))
