-- The order in which lost operations are owed.
use Rattle.std.specs.Prelude.{ℕ, Bool, true, ◌&&◌, nat_lt, List, [], ◌∷◌}
use Rattle.std.specs.List.{list_all}
use Rattle.ec_cache.specs.OfReport.Report.{Owed, owe}

-- each lost operation is above those that are owed before it
abbrev pub come_behind : List (ℕ × List ℕ) → Owed → Bool
come_behind [] owed = true
come_behind (op ∷ ops) owed = list_all (λ q. nat_lt q.0 op.0) owed && come_behind ops (owe (op ∷ []) owed)
