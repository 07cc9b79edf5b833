-- The pairs of a map whose keys fall.
use Rattle.std.specs.Prelude.{ℕ, List, [], ◌∷◌}
use Rattle.std.specs.declared.cmp.Reverse.{Reverse}
use Rattle.ec_base.specs.Tables.{Table, put}

-- the same pairs by rising objects
abbrev pub by_object : {X : Type 0} → List (Reverse ℕ × X) → Table X
by_object [] = []
by_object (e ∷ es) = put (e.0).0 e.1 (by_object es)
