-- What the code's walks say. No public clause cites this module.
use Rattle.std.specs.Prelude.{◌≡◌, ℕ, List, Result, Ok, Err}
use Rattle.ec_plain.specs.Walk.{Reached, Walk, At, Not}
use Rattle.ec_plain.specs.Plain.{refuses}
use Rattle.ec_plain.specs.declared.call.Refusal.{Refusal}
use Rattle.ec_plain.specs.declared.call.Outcome.{Outcome}
use Rattle.ec_plain.specs.declared.step.Step.{Step}
use Rattle.ec_plain.specs.declared.step.Step.TheVariants.{Goes, Ends}

abbrev pub reached : Result ℕ Refusal → Reached
reached (Ok o) = At o
reached (Err r) = Not r

-- the walk reached the object o
abbrev pub Reaches : Walk → ℕ → List ℕ → Type 0
Reaches w o os = w ≡ record { to = At o; read = os }

-- the walk was refused, and this is the outcome
abbrev pub Refused : Walk → Outcome → Type 0
Refused w outcome = (r : Refusal) × (os : List ℕ) × (w ≡ record { to = Not r; read = os }) × (outcome ≡ refuses r os)

-- what holds of that which a call goes on with, or of its outcome
abbrev pub MatchStep : {T : Type 0} → Step T → (T → Type 0) → (Outcome → Type 0) → Type 0
MatchStep (Goes found) P Q = P found
MatchStep (Ends outcome) P Q = Q outcome
