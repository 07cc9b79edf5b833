-- Steps of one pass.
use Rattle.std.specs.Prelude.{◌≡◌, ℕ, List, [], ◌∷◌}
use Rattle.ec_servernode.specs.declared.step.Step.{Step}

-- each step is of this pass
abbrev pub By : ℕ → List Step → Type 0
By pass [] = Unit {0}
By pass (s ∷ ss) = (s.pass ≡ pass) × By pass ss
