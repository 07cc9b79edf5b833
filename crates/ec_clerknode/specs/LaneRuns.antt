-- What a pass knows of lanes that were run, also where one met a fault.
use Rattle.std.specs.Prelude.{◌≡◌, ℕ, ◌≤◌, ◌⊎◌, List, ◌++◌, length, map, Some, None, Option, Result, Ok, Err, Vec}
use Rattle.std.specs.declared.alloc.Global.{Global}
use mathlib.Core.List.{IsPrefix}
use Rattle.ec_base.specs.declared.counter.Counter.TheVariants as counter
use Rattle.ec_base.specs.declared.ids.Age.{Age}
use Rattle.ec_history.specs.declared.entry.Answer.{Answer}
use Rattle.ec_plain.specs.declared.call.Call.{Call}
use Rattle.ec_lock.specs.Passes.{answered}
use Rattle.ec_lock.specs.PassViews.{first, front, numbers, raised, IsPassOf, Marked}
use Rattle.ec_lock.specs.Steps.{Member, Distinct, of}
use Rattle.ec_lock.specs.declared.types.Pass.{Pass}
use Rattle.ec_lock.specs.declared.types.TracedLock.{TracedLock}
use Rattle.ec_outs.specs.Outs.{Reply}
use Rattle.ec_clerknode.specs.declared.fault.NodeFault.{NodeFault}
use Rattle.ec_clerknode.specs.declared.fault.NodeFault.TheVariants as fault
use Rattle.ec_clerknode.specs.declared.state.Node.{Node}
use Rattle.ec_clerknode.specs.declared.step.Step.{Step}
use Rattle.ec_clerknode.specs.Closed.{Caused}
use Rattle.ec_clerknode.specs.Run.{Among, marks, old_boot}
use Rattle.ec_clerknode.specs.RunEnds.{highest}
use Rattle.ec_clerknode.specs.Turns.{number_of, calls_by}
use Rattle.ec_clerknode.specs.PassTurns.{Stays, GoesFrom}
use Rattle.ec_clerknode.specs.Lanes.{AreReplied, IsFront, AreLanes, AreFronts}

-- The pass has begun just these calls since the front before, each once and in order, with these answers. With a fault it has begun a front of them, and
-- the fault has its cause in its own steps behind the front before.
abbrev pub LaneDone : ℕ → List Call → List Step → List Step → List Reply → Result (Unit {0}) NodeFault → Type 0
LaneDone pass calls before after replies (Ok u) = (calls_by pass after ≡ calls_by pass before ++ calls) × AreReplied pass after (length before) calls replies
LaneDone pass calls before after replies (Err f) = IsFront pass (calls_by pass before) calls before after replies
    × ((more : List Step) × (before ++ more ≡ after) × Caused (old_boot after) f (of number_of pass more))

abbrev pub lists_of : {A : Type 0} → Vec (Vec A Global) Global → List (List A)
lists_of v = map (λ w. w.items) v.items

abbrev pub all_items : {A : Type 0} → Result (Vec (Vec A Global) Global) NodeFault → Result (List (List A)) NodeFault
all_items (Ok v) = Ok (map (λ w. w.items) v.items)
all_items (Err f) = Err f

-- a lane was run by this pass
pub record LaneRan {L : Type 0} (lock : TracedLock (Node L) Step) (old : Pass (Node L) Step) (calls : List Call) (new : Pass (Node L) Step) (replies : List Reply) (end : Result (Unit {0}) NodeFault) : Type 0 where
  pub is_pass : IsPassOf lock new
  pub stays : Stays old new
  pub later : IsPrefix (front old) (front new)
  pub done : LaneDone old.number calls (front old) (front new) replies end

-- where memory was wanting or no pass is left, and where the server knows a greater age, nothing is said
abbrev pub IfTold : Result (Unit {0}) NodeFault → Type 0 → Type 0
IfTold (Ok u) P = P
IfTold (Err fault.Net) P = P
IfTold (Err (fault.Peer place)) P = P
IfTold (Err (fault.Long n)) P = P
IfTold (Err (fault.OldBoot age)) P = Unit {0}
IfTold (Err (fault.Spent c)) P = (c ≡ counter.Pass) ⊎ P
IfTold (Err fault.NoMemory) P = Unit {0}

-- a step of one of these passes behind the list before is the cause of the fault
abbrev pub IsMarked : List ℕ → List Step → List Step → NodeFault → Type 0
IsMarked passes before after f = (pass : ℕ) × Member pass passes × ((more : List Step) × (before ++ more ≡ after) × Among f (marks (of number_of pass more)))

-- the cause of a fault of a lane
abbrev pub LaneFault : List ℕ → List Step → List Step → NodeFault → Type 0
LaneFault passes before after fault.Net = IsMarked passes before after fault.Net
LaneFault passes before after (fault.Peer place) = IsMarked passes before after (fault.Peer place)
LaneFault passes before after (fault.Long n) = IsMarked passes before after (fault.Long n)
LaneFault passes before after (fault.OldBoot age) = old_boot after ≡ Some age
LaneFault passes before after (fault.Spent c) = (c ≡ counter.Pass) ⊎ IsMarked passes before after (fault.Spent c)
LaneFault passes before after fault.NoMemory = Unit {0}

abbrev pub LanesDone : List ℕ → List (List Call) → List Step → List Step → Result (List (List Reply)) NodeFault → Type 0
LanesDone passes lanes before after (Ok all) = AreLanes before after passes lanes all
LanesDone passes lanes before after (Err f) = LaneFault passes before after f

-- Lanes were run beside this pass, each by a new pass of its own, which came into it. The steps of the pass's own numbers are as before. The lanes' steps
-- stand behind the list before.
pub record LanesRan {L : Type 0} (lock : TracedLock (Node L) Step) (before : List Step) (old : Pass (Node L) Step) (lanes : List (List Call)) (new : Pass (Node L) Step) (result : Result (List (List Reply)) NodeFault) : Type 0 where
  pub is_pass : IsPassOf lock new
  pub number : new.number ≡ old.number
  pub up : (raised old ≤ raised new) × (answered old ≤ answered new)
  pub later : IsPrefix (front old) (front new)
  pub own : (n : ℕ) → Member n (numbers old) → of number_of n (front old) ≡ of number_of n (front new)
  pub done : (passes : List ℕ) × (numbers new ≡ numbers old ++ passes) × Distinct passes × ((n : ℕ) → Member n (numbers old) → Member n passes → ⊥) × LanesDone passes lanes before (front new) result

-- the lanes made all their calls, or each a front of them up to the fault
abbrev pub LanesMade : List ℕ → List (List Call) → List Step → List Step → List (List Reply) → Result (Unit {0}) NodeFault → Type 0
LanesMade passes lanes before after all (Ok u) = AreLanes before after passes lanes all
LanesMade passes lanes before after all (Err f) = LaneFault passes before after f × IfTold (Err f) (AreFronts before after passes lanes all)

-- the same with the answers that came where a lane met a fault
pub record LanesCame {L : Type 0} (lock : TracedLock (Node L) Step) (before : List Step) (old : Pass (Node L) Step) (lanes : List (List Call)) (new : Pass (Node L) Step) (all : List (List Reply)) (end : Result (Unit {0}) NodeFault) : Type 0 where
  pub is_pass : IsPassOf lock new
  pub number : new.number ≡ old.number
  pub up : (raised old ≤ raised new) × (answered old ≤ answered new)
  pub later : IsPrefix (front old) (front new)
  pub own : (n : ℕ) → Member n (numbers old) → of number_of n (front old) ≡ of number_of n (front new)
  pub done : (passes : List ℕ) × (numbers new ≡ numbers old ++ passes) × Distinct passes × ((n : ℕ) → Member n (numbers old) → Member n passes → ⊥) × LanesMade passes lanes before (front new) all end

-- the answers alone
abbrev pub answers_in : Result (List (List Reply)) NodeFault → Result (List (List Answer)) NodeFault
answers_in (Ok all) = Ok (map (map (λ reply. reply.0)) all)
answers_in (Err f) = Err f

-- the same without the operations' numbers
abbrev pub LanesRanPlain : {L : Type 0} → TracedLock (Node L) Step → List Step → Pass (Node L) Step → List (List Call) → Pass (Node L) Step → Result (List (List Answer)) NodeFault → Type 0
LanesRanPlain lock before old lanes new result = (replies : Result (List (List Reply)) NodeFault) × LanesRan lock before old lanes new replies × (result ≡ answers_in replies)

-- where a greater age is known, that is the answer
abbrev pub TellsOldBoot : {A : Type 0} → Option Age → Result A NodeFault → Type 0
TellsOldBoot boot (Ok x) = boot ≡ None
TellsOldBoot boot (Err f) = (age : Age) → boot ≡ Some age → f ≡ fault.OldBoot age

-- the turns of a pass at the lock, of which the last one had the whole list
pub record Looked {L : Type 0} (lock : TracedLock (Node L) Step) (old new : Pass (Node L) Step) : Type 0 where
  pub goes : GoesFrom (first lock).clerk (front old) (front new)
  pub marked : Marked old (highest (front new))
  pub raises : highest (front new) ≤ raised new
