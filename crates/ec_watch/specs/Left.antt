-- Numbers that rise, each with whether it's left.
use Rattle.std.specs.Prelude.{ℕ, Bool, cond, List, [], ◌∷◌}

-- the ones that are left
abbrev pub left : List (ℕ × Bool) → List ℕ
left [] = []
left (e ∷ es) = cond e.1 (e.0 ∷ left es) (left es)
