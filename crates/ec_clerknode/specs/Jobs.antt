-- Passes that are drawn for lanes, and what they bring back.
use Rattle.std.specs.Prelude.{◌≡◌, ◌⊎◌, ℕ, List, [], ◌∷◌, ◌++◌, length, Result, Ok, Err}
use mathlib.Core.List.{IsPrefix}
use Rattle.ec_plain.specs.declared.call.Call.{Call}
use Rattle.ec_lock.specs.PassViews.{front, numbers, IsPassOf, Same}
use Rattle.ec_lock.specs.Steps.{Member, of}
use Rattle.ec_lock.specs.declared.types.Pass.{Pass}
use Rattle.ec_lock.specs.declared.types.TracedLock.{TracedLock}
use Rattle.ec_outs.specs.Outs.{Reply}
use Rattle.ec_clerknode.specs.declared.fault.NodeFault.{NodeFault}
use Rattle.ec_clerknode.specs.declared.state.Node.{Node}
use Rattle.ec_clerknode.specs.declared.step.Step.{Step}
use Rattle.ec_clerknode.specs.declared.fault.NodeFault.TheVariants as fault
use Rattle.ec_clerknode.specs.declared.jobs.AllReplied.{AllReplied}
use Rattle.ec_clerknode.specs.declared.lane.Replied.{Replied}
use Rattle.ec_clerknode.specs.Lanes.{AreReplied, IsFront}
use Rattle.ec_clerknode.specs.LaneRuns.{LaneFault, lists_of}
use Rattle.ec_clerknode.specs.Turns.{number_of, calls_by}

-- passes were drawn beside this one, whose own steps are as before
pub record Drew {L : Type 0} (lock : TracedLock (Node L) Step) (old new : Pass (Node L) Step) : Type 0 where
  pub is_pass : IsPassOf lock new
  pub same : Same old new
  pub later : IsPrefix (front old) (front new)
  pub own : (n : ℕ) → Member n (numbers old) → of number_of n (front old) ≡ of number_of n (front new)

-- a pass that has done nothing, whose front goes on from the list before
pub record IsNewPass {L : Type 0} (lock : TracedLock (Node L) Step) (before : List Step) (pass : Pass (Node L) Step) : Type 0 where
  pub is_pass : IsPassOf lock pass
  pub alone : numbers pass ≡ pass.number ∷ []
  pub later : IsPrefix before (front pass)
  pub none : of number_of pass.number (front pass) ≡ []

-- The pass has begun just these calls, each once and in order behind the list before, with these answers. With a fault it has begun a front of them, and
-- the fault has its cause there.
abbrev pub OneDone : ℕ → List Call → List Step → List Step → List Reply → Result (Unit {0}) NodeFault → Type 0
OneDone pass calls before after replies (Ok u) = (calls_by pass after ≡ calls) × AreReplied pass after (length before) calls replies
OneDone pass calls before after replies (Err f) = LaneFault (pass ∷ []) before after f × IsFront pass [] calls before after replies

-- the pass of a lane comes back
pub record IsBack {L : Type 0} (lock : TracedLock (Node L) Step) (before : List Step) (calls : List Call) (pass : Pass (Node L) Step) (replies : List Reply) (end : Result (Unit {0}) NodeFault) : Type 0 where
  pub is_pass : IsPassOf lock pass
  pub alone : numbers pass ≡ pass.number ∷ []
  pub later : IsPrefix before (front pass)
  pub done : OneDone pass.number calls before (front pass) replies end

-- the passes of these lanes come back
abbrev pub AreBack : {L : Type 0} → TracedLock (Node L) Step → List Step → List (List Call) → List (Pass (Node L) Step × Replied) → Type 0
AreBack lock before [] [] = Unit {0}
AreBack lock before (calls ∷ lanes) (one ∷ ran) = IsBack lock before calls one.0 one.1.replies.items one.1.end × AreBack lock before lanes ran
AreBack lock before [] (one ∷ ran) = ⊥
AreBack lock before (calls ∷ lanes) [] = ⊥

-- the first of two faults
abbrev pub first_end : Result (Unit {0}) NodeFault → Result (Unit {0}) NodeFault → Result (Unit {0}) NodeFault
first_end (Ok u) end = end
first_end (Err f) end = Err f

-- what one lane gave stands behind what those before it gave, but for want of memory
abbrev pub Puts : AllReplied → Replied → AllReplied → Type 0
Puts all one more = (more.end ≡ Err fault.NoMemory) ⊎ ((lists_of more.lanes ≡ lists_of all.lanes ++ one.replies.items ∷ []) × (more.end ≡ first_end all.end one.end))
