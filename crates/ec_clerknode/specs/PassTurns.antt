-- What a pass knows of the list after each call on the shared clerk.
use Rattle.std.specs.Prelude.{◌≡◌, ℕ, ◌+◌, ◌≤◌, ◌⊎◌, List, [], ◌∷◌, ◌++◌, length, Option, Some, None, Result, Ok, Err, IfSome, Bool, true}
use Rattle.std.specs.declared.snapshot.Snapshot.{Snapshot}
use mathlib.Core.List.{IsPrefix}
use Rattle.ec_history.specs.declared.entry.Answer.{Answer}
use Rattle.ec_log.specs.declared.state.Asked.{Asked}
use Rattle.ec_plain.specs.declared.call.Call.{Call}
use Rattle.ec_protocol.specs.declared.clerk.Clerk.{Clerk}
use Rattle.ec_protocol.specs.declared.clerk.Flushed.{Flushed}
use Rattle.ec_link.specs.Links.{Heard, added}
use Rattle.ec_lock.specs.Passes.{answered}
use Rattle.ec_lock.specs.PassViews.{first, front, numbers, raised, IsPassOf, Marked}
use Rattle.ec_lock.specs.Steps.{Member, of}
use Rattle.ec_lock.specs.declared.types.Pass.{Pass}
use Rattle.ec_lock.specs.declared.types.TracedLock.{TracedLock}
use Rattle.ec_outs.specs.Outs.{Reply}
use Rattle.ec_clerknode.specs.declared.fault.NodeFault.{NodeFault}
use Rattle.ec_clerknode.specs.declared.step.Step.{Step}
use Rattle.ec_clerknode.specs.declared.step.Deed.TheVariants.{Picked, Linked}
use Rattle.ec_clerknode.specs.declared.state.Node.{Node}
use Rattle.ec_clerknode.specs.Closed.{Caused}
use Rattle.ec_clerknode.specs.FoldedAnswers.{answer_to}
use Rattle.ec_clerknode.specs.NodeSteps.{AnsweredFrom}
use Rattle.ec_clerknode.specs.Run.{IsRun, old_boot, said_in, said_by, heard_of, heard_by}
use Rattle.ec_clerknode.specs.RunEnds.{highest, leads, nets}
use Rattle.ec_clerknode.specs.PresentLink.{Over, Counted, LinksBy}
use Rattle.ec_clerknode.specs.Turns.{number_of, calls_by, BeganAt, Replied, SaidBye}

-- the list that the pass has is a run from this clerk, and goes on from the front before
abbrev pub GoesFrom : Clerk → List Step → List Step → Type 0
GoesFrom c before after = IsRun c after × IsPrefix before after

module _ {L : Type 0} where
  -- what stays of a pass in its turns. The mark that it raised may rise.
  abbrev pub Stays : Pass (Node L) Step → Pass (Node L) Step → Type 0
  Stays old new = (new.number ≡ old.number) × (numbers new ≡ numbers old) × (answered new ≡ answered old) × (raised old ≤ raised new)

  -- the pass had turns at the lock. Its front is a run from the clerk that the lock was made with, and goes on from the front before. The floor of the
  -- new front is at least each number that the pass raised or was answered before, and the pass has raised it. The steps of the passes that were joined
  -- into it are as before.
  pub record Turned (lock : TracedLock (Node L) Step) (old new : Pass (Node L) Step) : Type 0 where
    pub is_pass : IsPassOf lock new
    pub stays : Stays old new
    pub goes : GoesFrom (first lock).clerk (front old) (front new)
    pub marked : Marked old (highest (front new))
    pub raises : highest (front new) ≤ raised new
    pub others : (n : ℕ) → Member n (numbers old) → ¬ (n ≡ old.number) → of number_of n (front old) ≡ of number_of n (front new)

-- these calls were begun or none, and the fault has its cause behind the old front, in steps of this pass
abbrev pub Failed : ℕ → List Call → List Step → List Step → NodeFault → Type 0
Failed pass cs before after f = ((calls_by pass after ≡ calls_by pass before) ⊎ (calls_by pass after ≡ calls_by pass before ++ cs))
    × ((more : List Step) × (before ++ more ≡ after) × Caused (old_boot after) f (of number_of pass more))

-- the call was made
abbrev pub Called : ℕ → Call → List Step → List Step → Result Reply NodeFault → Type 0
Called pass call before after (Ok reply) = Replied pass call before after reply
Called pass call before after (Err f) = Failed pass (call ∷ []) before after f

-- the same without the operation's number
abbrev pub CalledPlain : ℕ → Call → List Step → List Step → Result Answer NodeFault → Type 0
CalledPlain pass call before after (Ok answer) = (op : Option ℕ) × Replied pass call before after (answer, op)
CalledPlain pass call before after (Err f) = Failed pass (call ∷ []) before after f

-- a call that begins nothing
abbrev pub Worked : {A : Type 0} → ℕ → List Step → List Step → Result A NodeFault → Type 0
Worked pass before after (Ok x) = (calls_by pass after ≡ calls_by pass before) × (old_boot after ≡ None)
Worked pass before after (Err f) = Failed pass [] before after f

-- it may have said goodbye, and begins no call
abbrev pub Partings : {A : Type 0} → ℕ → List Step → List Step → Result (A × Bool) NodeFault → Type 0
Partings pass before after (Ok r) = Worked pass before after (Ok r) × (r.1 ≡ true → SaidBye pass before after)
Partings pass before after (Err f) = Failed pass [] before after f

-- the last step of the front asked for a batch, and this is what the clerk answers there to which the steps before it lead
abbrev pub PickedLast : Clerk → ℕ → Asked → List Step → List Step → Flushed → Type 0
PickedLast c pass asked before after answer = (steps : List Step) × (s : Step) × (shot : Snapshot Asked) × (steps ++ s ∷ [] ≡ after) × IsPrefix before steps × (s.deed ≡ Picked shot) × (shot.value ≡ asked) × (s.pass ≡ pass) × (answer ≡ answer_to asked (leads c steps))

abbrev pub FlushTurned : Clerk → ℕ → Asked → List Step → List Step → Result Flushed NodeFault → Type 0
FlushTurned c pass asked before after (Ok answer) = Worked pass before after (Ok answer) × PickedLast c pass asked before after answer
FlushTurned c pass asked before after (Err f) = Failed pass [] before after f

abbrev pub AsksFlush : {A : Type 0} → Clerk → ℕ → Asked → List Step → List Step → Result (A × Flushed) NodeFault → Type 0
AsksFlush c pass asked before after (Ok r) = FlushTurned c pass asked before after (Ok r.1)
AsksFlush c pass asked before after (Err f) = FlushTurned c pass asked before after (Err f)

-- a call is begun behind the old front, at this place and with this number
abbrev pub Pending : ℕ → Call → List Step → List Step → ℕ → ℕ → Type 0
Pending pass call before after number place = (calls_by pass after ≡ calls_by pass before ++ call ∷ []) × (length before ≤ place) × BeganAt pass after place call number

abbrev pub Starts : ℕ → Call → List Step → List Step → Result (ℕ × ℕ × Option Reply) NodeFault → Type 0
Starts pass call before after (Ok r) = Pending pass call before after r.0 r.1 × (old_boot after ≡ None) × IfSome r.2 (λ a. AnsweredFrom after r.1 r.0 a)
Starts pass call before after (Err f) = Failed pass (call ∷ []) before after f

abbrev pub Waits : {A : Type 0} → ℕ → List Step → List Step → ℕ → ℕ → Result (A × Option Reply) NodeFault → Type 0
Waits pass before after number place (Ok r) = Worked pass before after (Ok r) × IfSome r.1 (λ a. AnsweredFrom after place number a)
Waits pass before after number place (Err f) = Failed pass [] before after f

-- The clerk and the last link that are handed back, by the whole list. Where memory was wanting, there is no clerk.
abbrev pub Finished : {L : Type 0} → (L → ℕ) → (L → Option (List Heard)) → (L → Option (List (List ℕ))) → Node L → List Step → Option Clerk → L → Type 0
Finished counts given got first steps c link = IsRun first.clerk steps × Counted (counts first.link) steps (counts link) × Over said_in (got first.link) steps (got link)
    × IfSome c (λ c. (leads first.clerk steps ≡ c) × Over (λ s. heard_of s.deed) (given first.link) steps (given link))

-- the same where no link is exchanged
abbrev pub FinishedAlone : {L : Type 0} → (L → ℕ) → (L → Option (List Heard)) → (L → Option (List (List ℕ))) → Node L → List Step → Option Clerk → L → Type 0
FinishedAlone counts given got first steps c link = IsRun first.clerk steps × (nets steps + counts first.link ≤ counts link) × (got link ≡ added (got first.link) (said_by steps))
    × IfSome c (λ c. (leads first.clerk steps ≡ c) × (given link ≡ added (given first.link) (heard_by steps)))

-- A link came back that was exchanged behind these steps: it tells what those of their last part heard and said.
abbrev pub HandsBack : {L : Type 0} → (L → ℕ) → (L → Option (List Heard)) → (L → Option (List (List ℕ))) → Node L → List Step → L → Type 0
HandsBack counts given got first steps link = Counted (counts first.link) steps (counts link) × Over said_in (got first.link) steps (got link) × Over (λ s. heard_of s.deed) (given first.link) steps (given link)

-- This pass exchanged the link: it made one step behind the old front, in which the clerk greeted by the new one, and the one before came back.
abbrev pub Relinked : {L : Type 0} → (L → ℕ) → (L → Option (List Heard)) → (L → Option (List (List ℕ))) → Node L → ℕ → List Step → List Step → L → Type 0
Relinked counts given got first pass before after link = (steps : List Step) × (s : Step) × (steps ++ s ∷ [] ≡ after) × IsPrefix before steps × (of number_of pass before ≡ of number_of pass steps) × (s.deed ≡ Linked) × (s.pass ≡ pass)
    × (first.linker ≡ Some pass) × LinksBy first.linker steps × HandsBack counts given got first steps link
