-- Calls that are queued: a line shows that a call waits before it begins, and it begins behind it.
use Rattle.std.specs.Prelude.{◌≡◌, ◌==◌, ◌+◌, ℕ, T, true, false, None, Some, is_some}
use Rattle.std.specs.List.{list_any}
use Rattle.ec_base.specs.Tables.{at}
use Rattle.ec_plain.specs.BoundedCalls.{is_bounded}
use Rattle.ec_plain.specs.declared.call.Call.{Call}
use Rattle.ec_history.specs.Placing.{Agrees, EachLine, Unanswered, is_numbered}
use Rattle.ec_history.specs.declared.shown.Shown.TheVariants.{Waits}
use Rattle.ec_protocol.specs.Clerk.{begin}
use Rattle.ec_protocol.specs.declared.clerk.Clerk.{Clerk}
use Rattle.ec_protocol.specs.declared.world.World.{World}
use Rattle.ec_coherence.specs.System.{System}
use Rattle.ec_coherence.specs.Steps.{call_of}
use Rattle.ec_coherence.specs.StandLaws.{lined}
use Rattle.ec_lawful.specs.OfClerkSteps.Calls.{is_shown}
use Rattle.ec_lawful.specs.OfClerkSteps.CallLaws.{IsNewLine}
use Rattle.ec_protocol.specs.Resumes.{resume, wait}
use Rattle.ec_lawful.specs.Steps.{HoldsIn, StepIsDone, IsNewIn}
use Rattle.ec_lawful.specs.Ties.{called}
use Rattle.ec_lawful.specs.Whole.{Whole}

-- In a system a call of this line may begin: all lines of it are of this clerk and call, none answers it, and no call under way has it.
pub record MayBegin (g : System) (c l : ℕ) (cl : Call) : Type 0 where
  pub own : EachLine (Agrees l c cl) g.ghost.shown
  pub unanswered : EachLine (Unanswered l) g.ghost.shown
  pub unused : (d n k : ℕ) (dl : Call) → call_of d n g.calls ≡ Some (k, dl) → (k == l) ≡ false

-- The facts are kept by such a line of a running clerk, and by the step in which its call begins.
pub record QueuesKeep (F : System → Type 0) : Type 0 where
  pub waits : (g : System) (c b : ℕ) → F g → g.running c ≡ Some b → (l : ℕ) (cl : Call) → IsNewLine g l → F (lined g (Waits l c cl))
  pub resumes : (g : System) (c b : ℕ) (k : Clerk) → F g → g.running c ≡ Some b → g.clerks c b ≡ Some k → (l : ℕ) (cl : Call) → MayBegin g c l cl → is_shown g l ≡ true → T (is_bounded cl)
      → StepIsDone F (called c (k.calls + 1) l cl g) c b (begin cl k)

abbrev pub QueuesKeepAll : Type 0
QueuesKeepAll = QueuesKeep Whole

-- a call of a running clerk may wait before it begins: its line is new, and it's within its bounds
pub record MayWait (w : World) (c l : ℕ) (cl : Call) : Type 0 where
  pub runs : T (is_some (at c w.clerks))
  pub new : IsNewIn w l
  pub bounded : T (is_bounded cl)

-- it may begin behind its line: all lines of its number are its own, none answers it, and no call under way has it
pub record MayResume (w : World) (c l : ℕ) (cl : Call) : Type 0 where
  pub shown : list_any (is_numbered l) w.shown ≡ true
  pub own : EachLine (Agrees l c cl) w.shown
  pub unanswered : EachLine (Unanswered l) w.shown
  pub unused : (d n k : ℕ) (dl : Call) → call_of d n w.calls ≡ Some (k, dl) → (k == l) ≡ false
  pub bounded : T (is_bounded cl)

-- so all facts hold behind both in a world that stands in a system of which they hold
abbrev pub WaitsHold : Type 0
WaitsHold = (w : World) → HoldsIn Whole w → (c l : ℕ) (cl : Call) → MayWait w c l cl → HoldsIn Whole (wait c l cl w).world

abbrev pub ResumesHold : Type 0
ResumesHold = (w : World) → HoldsIn Whole w → (c l : ℕ) (cl : Call) → MayResume w c l cl → (resume c l cl w).fault ≡ None → HoldsIn Whole (resume c l cl w).world
