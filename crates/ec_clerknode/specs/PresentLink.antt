-- The part of a list of steps that is over the present link, and what that link told and counted.
use Rattle.std.specs.Prelude.{◌≡◌, ℕ, ◌+◌, ◌≤◌, Bool, true, false, ◌||◌, List, [], ◌∷◌, Option, None, Some, if◌then◌else◌}
use Rattle.ec_link.specs.Links.{Heard, added}
use Rattle.ec_link.specs.NetAnswers.{IsEmpty}
use Rattle.ec_clerknode.specs.declared.step.Step.{Step}
use Rattle.ec_clerknode.specs.Run.{heard_by}
use Rattle.ec_clerknode.specs.RunEnds.{nets, Came}
use Rattle.ec_link.specs.Happenings.{each}
use Rattle.ec_clerknode.specs.Parts.{is_linked}

abbrev pub has_link : List Step → Bool
has_link [] = false
has_link (s ∷ ss) = is_linked s.deed || has_link ss

-- the steps over the present link: all of them, or those from the last `Linked` step on
abbrev pub part : List Step → List Step
part [] = []
part (s ∷ ss) = if has_link ss then part ss else s ∷ ss

-- what the present link had told before its part: the first one this, and a new one nothing
abbrev pub IsBase : {A : Type 0} → Bool → Option (List A) → Option (List A) → Type 0
IsBase false first base = base ≡ first
IsBase true first base = IsEmpty base

-- What the present link tells is what each step of its part gives, where the first link told this when the list began.
abbrev pub Over : {A : Type 0} → (Step → List A) → Option (List A) → List Step → Option (List A) → Type 0
Over {A = A} by first steps now = (base : Option (List A)) × IsBase (has_link steps) first base × (now ≡ added base (each by (part steps)))

-- the same, and at most one more that was heard, for which memory was wanting
abbrev pub CameOver : Option (List Heard) → List Step → Option (List Heard) → Type 0
CameOver first steps now = (base : Option (List Heard)) × IsBase (has_link steps) first base × Came base (heard_by (part steps)) now

-- the present link counted each mark of its part, the first link beside what it had counted
abbrev pub count_before : Bool → ℕ → ℕ
count_before false first = first
count_before true first = 0

abbrev pub Counted : ℕ → List Step → ℕ → Type 0
Counted first steps now = nets (part steps) + count_before (has_link steps) first ≤ now

-- each `Linked` step is of the pass with this number, where there is one
abbrev pub IsLinker : Option ℕ → ℕ → Type 0
IsLinker None pass = ⊥
IsLinker (Some linker) pass = pass ≡ linker

abbrev pub LinksBy : Option ℕ → List Step → Type 0
LinksBy linker [] = Unit {0}
LinksBy linker (s ∷ ss) = (is_linked s.deed ≡ true → IsLinker linker s.pass) × LinksBy linker ss
