-- How far a history is legal.
use Rattle.std.specs.Prelude.{◌≡◌, ◌==◌, ◌⊎◌, ℕ, if◌then◌else◌, [], ◌∷◌}
use Rattle.ec_history.specs.History.{History}
use Rattle.ec_history.specs.Legal.{IsLegal, from_formatted}
use Rattle.ec_history.specs.declared.rule.Rule.{Rule}
use Rattle.ec_judge.specs.Faults.{IsFirstEntry}

-- These are all entries of a legal history, or those before the first one that breaks a rule, however few objects there may be.
abbrev pub IsLegalFront : History → History → Type 0
IsLegalFront h front = ((front ≡ h) × IsLegal from_formatted 0 h) ⊎ ((p : ℕ) × (r : Rule) × (first : IsFirstEntry from_formatted 0 h p r) × (front ≡ first.before))

-- the entries before the first one of this line
abbrev pub before_line : ℕ → History → History
before_line p [] = []
before_line p (e ∷ h) = if e.0 == p then [] else e ∷ before_line p h
