-- What a pass knows of the list after a call on the shared clerk.
use Rattle.std.specs.Prelude.{◌≡◌, ℕ, ◌≤◌, List, [], ◌∷◌, ◌++◌, length, Option, Some, None, slice_get}
use Rattle.std.specs.declared.snapshot.Snapshot.{Snapshot}
use Rattle.ec_plain.specs.declared.call.Call.{Call}
use Rattle.ec_lock.specs.Steps.{of}
use Rattle.ec_outs.specs.Outs.{Reply}
use Rattle.ec_clerknode.specs.declared.step.Step.{Step}
use Rattle.ec_clerknode.specs.declared.step.Deed.TheVariants.{Began}
use Rattle.ec_clerknode.specs.Node.{AnsweredAt}
use Rattle.ec_clerknode.specs.Run.{calls, old_boot, IsGoodbye}

abbrev pub number_of : Step → Option ℕ
number_of s = Some s.pass

-- the calls that this pass began
abbrev pub calls_by : ℕ → List Step → List Call
calls_by pass steps = calls (of number_of pass steps)

-- the step at this place is the pass's, and began the call with this number
abbrev pub BeganAt : ℕ → List Step → ℕ → Call → ℕ → Type 0
BeganAt pass steps at call number = (s : Step) × (shot : Snapshot Call) × (slice_get steps at ≡ Some s) × (s.deed ≡ Began shot number) × (shot.value ≡ call) × (s.pass ≡ pass)

-- behind the old front stand the call and its answer, and the pass has begun nothing else
abbrev pub Replied : ℕ → Call → List Step → List Step → Reply → Type 0
Replied pass call before after reply = (calls_by pass after ≡ calls_by pass before ++ call ∷ [])
    × ((number : ℕ) × (at : ℕ) × (from : ℕ) × (length before ≤ at) × (at ≤ from) × BeganAt pass after at call number × AnsweredAt after from number reply)
    × (old_boot after ≡ None)

-- behind the old front this pass said goodbye
abbrev pub SaidBye : ℕ → List Step → List Step → Type 0
SaidBye pass before after = (at : ℕ) × (s : Step) × (length before ≤ at) × (slice_get after at ≡ Some s) × (s.pass ≡ pass) × IsGoodbye s
