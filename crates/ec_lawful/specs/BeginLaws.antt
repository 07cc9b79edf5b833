-- What is proved of the step in which a call begins, as contracts name it: before its calls are tried, all facts stand.
use Rattle.std.specs.Prelude.{◌≡◌, ◌<◌, ◌⊎◌, ◌+◌, ℕ, T, true, [], ◌∷◌, None, Some}
use Rattle.std.specs.List.{list_any}
use Rattle.ec_base.specs.Tables.{at_or, put}
use Rattle.ec_plain.specs.BoundedCalls.{is_bounded}
use Rattle.ec_plain.specs.declared.call.Call.{Call}
use Rattle.ec_history.specs.declared.shown.Shown.TheVariants.{Waits}
use Rattle.ec_history.specs.declared.entry.Answer.{Answer}
use Rattle.ec_protocol.specs.Clerk.{Doing, add_call, begin, doing, new_clerk}
use Rattle.ec_protocol.specs.World.{is_answer_to}
use Rattle.ec_protocol.specs.declared.clerk.Out.TheVariants as out
use Rattle.ec_protocol.specs.declared.clerk.Clerk.{Clerk}
use Rattle.ec_coherence.specs.System.{System, Ghost, with_start}
use Rattle.ec_coherence.specs.ChangeLaws.{Calls}
use Rattle.ec_coherence.specs.Steps.{doing_in, less_call}
use Rattle.ec_coherence.specs.Answers.{answered_ghost}
use Rattle.ec_coherence.specs.CommitLaws.{AllAgree}
use Rattle.ec_coherence.specs.StandLaws.{ClerkStands, IsUnderWay, lined}
use Rattle.ec_lawful.specs.OfClerkSteps.Counts.{CountsAgree}
use Rattle.ec_lawful.specs.OfClerkSteps.Cuts.{CutsAgree}
use Rattle.ec_lawful.specs.OfClerkSteps.JoinLaws.{started}
use Rattle.ec_lawful.specs.Steps.{LineIsNew, in_call}
use Rattle.ec_lawful.specs.OfClerkSteps.Calls.{CallsAgree}
use Rattle.ec_lawful.specs.OfClerkSteps.Waits.{AreAtRest, AreInTurn}
use Rattle.ec_lawful.specs.OfClerkSteps.Zeros.{ZerosAgree}

-- The step stands, its clerk is in no session or in that of the step, and its calls are in turn.
pub record HasBegun (g : System) (c b : ℕ) (d : Doing) (γ : Ghost) : Type 0 where
  pub stands : ClerkStands g c b d γ
  pub place : (d.clerk.session ≡ None) ⊎ ((s : ℕ) × IsUnderWay g c b s d γ)
  pub calls : CallsAgree (doing_in c b d γ g)
  pub turn : AreInTurn (doing_in c b d γ g) c d.clerk

-- a call of a running clerk has begun; where its own step doesn't answer it, its line is shown
abbrev pub CallsHaveBegun : Type 0
CallsHaveBegun = (g : System) → AllAgree g → CallsAgree g → AreAtRest g → (c b : ℕ) (k : Clerk) → g.running c ≡ Some b → g.clerks c b ≡ Some k → (l : ℕ) (cl : Call) → LineIsNew g l → T (is_bounded cl)
    → let h = in_call c l cl k g in HasBegun h c b (doing (add_call cl k)) h.ghost × (CutsAgree g → CutsAgree (doing_in c b (doing (add_call cl k)) h.ghost h))

-- the calls under way with the first one of the clerk's next start
abbrev pub first_call : ℕ → ℕ → Call → System → Calls
first_call c l cl g = put c (put 1 (l, cl) (at_or [] c g.calls)) g.calls

-- the first call of a clerk's next start has begun, whose own step doesn't answer it
abbrev pub StartsHaveBegun : Type 0
StartsHaveBegun = (g : System) → AllAgree g → CallsAgree g → CountsAgree g → (c : ℕ) → c < 16 → g.running c ≡ None → (l : ℕ) (cl : Call) → LineIsNew g l → T (is_bounded cl)
    → let b = g.boots c + 1 in let h = lined (started g c (first_call c l cl g)) (Waits l c cl) in let d = doing (add_call cl (new_clerk c b)) in
    HasBegun h c b d h.ghost × CountsAgree h × (CutsAgree g → CutsAgree (doing_in c b d h.ghost h))

-- Where its own step answers the first call of a clerk's next start: the clerk behind it, the ghosts, and the system.
abbrev pub answered_start : ℕ → ℕ → Clerk
answered_start c b = record (new_clerk c b) { calls = 1 }

abbrev pub first_ghost : ℕ → ℕ → Call → Answer → Ghost → Ghost
first_ghost c l cl a γ = answered_ghost c l cl a None 0 [] γ

abbrev pub behind_first : System → ℕ → ℕ → Call → Answer → System
behind_first g c l cl a =
    record (started g c (less_call c 1 (first_call c l cl g))) {
      clerks = with_start c (g.boots c + 1) (answered_start c (g.boots c + 1)) g.clerks;
      ghost = first_ghost c l cl a g.ghost;
    }

-- all facts stand there, and the step was that
abbrev pub FreshStartsAnswer : Type 0
FreshStartsAnswer = (g : System) → AllAgree g → CallsAgree g → AreAtRest g → CountsAgree g → ZerosAgree g → (c : ℕ) → c < 16 → g.running c ≡ None → (l : ℕ) (cl : Call) → LineIsNew g l → T (is_bounded cl)
    → list_any (is_answer_to 1) (begin cl (new_clerk c (g.boots c + 1))).outs ≡ true
    → let b = g.boots c + 1 in
    (a : Answer) × (begin cl (new_clerk c b) ≡ record { clerk = answered_start c b; outs = out.Answer 1 a None ∷ []; spent = None })
    × AllAgree (behind_first g c l cl a) × CallsAgree (behind_first g c l cl a) × AreAtRest (behind_first g c l cl a) × CountsAgree (behind_first g c l cl a) × ZerosAgree (behind_first g c l cl a)
    × (CutsAgree g → CutsAgree (behind_first g c l cl a))
