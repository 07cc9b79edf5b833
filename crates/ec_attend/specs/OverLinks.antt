-- When a link is over, and what its own steps are so far.
use Rattle.std.specs.Prelude.{◌≡◌, ◌⊎◌, ◌≤◌, ℕ, Bool, true, false, List, ◌∷◌, [], Option, Result, Ok, Err}
use Rattle.ec_link.specs.Links.{Heard}
use Rattle.ec_link.specs.NetAnswers.{is_bad}
use Rattle.ec_lock.specs.PassViews.{front, numbers}
use Rattle.ec_lock.specs.Steps.{of}
use Rattle.ec_lock.specs.declared.types.Pass.{Pass}
use Rattle.ec_servernode.specs.declared.state.Node.{Node}
use Rattle.ec_servernode.specs.declared.step.Step.{Step}
use Rattle.ec_servernode.specs.declared.fault.ServeFault.{ServeFault}
use Rattle.ec_servernode.specs.declared.fault.ServeFault.TheVariants as fault
use Rattle.ec_servernode.specs.Bodies.{heard_by, said_by}
use Rattle.ec_servernode.specs.Run.{number_of}
use Rattle.ec_attend.specs.declared.bells.telling.Gone.{Gone}
use Rattle.ec_attend.specs.declared.bells.telling.Gone.TheVariants as gone
use Rattle.ec_base.specs.Lists.{Tells}
use Rattle.ec_attend.specs.Links.{Refuses, WasReplaced, HasNoEnd, Carries}

-- Why a link isn't served any more: it was closed or replaced, it failed, or it gave what is no message. Else the server is down, or memory was wanting.
abbrev pub IsOverBy : ℕ → ℕ → Option (List Heard) → Type 0 → Result Gone ServeFault → Type 0
IsOverBy faults closes given Replaced (Ok gone.Closed) = 1 ≤ closes
IsOverBy faults closes given Replaced (Ok gone.Replaced) = Replaced
IsOverBy faults closes given Replaced (Err fault.Net) = 1 ≤ faults
IsOverBy faults closes given Replaced (Err (fault.Peer why)) = Refuses given
IsOverBy faults closes given Replaced (Err (fault.Long n)) = Refuses given
IsOverBy faults closes given Replaced (Err fault.DiskFailed) = Unit {0}
IsOverBy faults closes given Replaced (Err fault.DiskStopped) = Unit {0}
IsOverBy faults closes given Replaced (Err (fault.Spent n)) = Unit {0}
IsOverBy faults closes given Replaced (Err fault.Down) = Unit {0}
IsOverBy faults closes given Replaced (Err fault.NoMemory) = Unit {0}

abbrev pub is_over : Result Gone ServeFault → Bool
is_over (Ok u) = true
is_over (Err fault.Net) = true
is_over (Err (fault.Peer why)) = true
is_over (Err (fault.Long n)) = true
is_over (Err fault.DiskFailed) = false
is_over (Err fault.DiskStopped) = false
is_over (Err (fault.Spent n)) = false
is_over (Err fault.Down) = false
is_over (Err fault.NoMemory) = false

module _ {L : Type 0} (faults closes : L → ℕ) (given : L → Option (List Heard)) where
  abbrev pub EndsSo : {K : Type 0} → Bool → Pass (Node K) Step → L → Type 0
  EndsSo true pass link = (is_bad (faults link) (closes link) ≡ 1) ⊎ (Refuses (given link) ⊎ WasReplaced pass.number (front pass))
  EndsSo false pass link = Unit {0}

-- the link gave the bodies that these steps took, and got those that they sent, in order, and they did nothing else
abbrev pub IsSoFar : List Step → Option (List Heard) → Option (List (List ℕ)) → Type 0
IsSoFar own given got = Tells given (heard_by own) × Tells got (said_by own) × HasNoEnd own

-- The same of a link that isn't served any more. It isn't told where the server is down or memory was wanting.
abbrev pub CarriesSo : Bool → List Step → Option (List Heard) → Option (List (List ℕ)) → Type 0
CarriesSo true own given got = Carries own given got
CarriesSo false own given got = Unit {0}

-- the steps of a pass, in what it knows of the list
abbrev pub own_steps : {K : Type 0} → Pass (Node K) Step → List Step
own_steps pass = of number_of pass.number (front pass)

module _ {K L : Type 0} (given : L → Option (List Heard)) (got : L → Option (List (List ℕ))) where
  -- so far the link gave and got what the steps of its pass say
  abbrev pub IsServed : Pass (Node K) Step → L → Type 0
  IsServed pass link = IsSoFar (own_steps pass) (given link) (got link)

  abbrev pub WasServed : Bool → Pass (Node K) Step → L → Type 0
  WasServed over pass link = CarriesSo over (own_steps pass) (given link) (got link)

  -- a link and its pass, into which no other one was joined
  abbrev pub BeginsSo : Pass (Node K) Step → L → Type 0
  BeginsSo pass link = (numbers pass ≡ pass.number ∷ []) × IsServed pass link

  abbrev pub GoneSo : Bool → Pass (Node K) Step → L → Type 0
  GoneSo over pass link = (numbers pass ≡ pass.number ∷ []) × WasServed over pass link
