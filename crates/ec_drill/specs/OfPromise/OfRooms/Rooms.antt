-- Refusals for want of room, told by a line.
use Rattle.std.specs.Prelude.{◌≤◌, ◌+◌, ℕ, ⊤}
use Rattle.ec_history.specs.declared.entry.Answer.TheVariants as answer
use Rattle.ec_history.specs.declared.shown.Shown.{Shown}
use Rattle.ec_history.specs.declared.shown.Shown.TheVariants.{Answered}

-- A refusal tells how many objects live and how many ids are reserved: both together are within the number of objects.
abbrev pub IsWithinRoom : ℕ → Shown → Type 0
IsWithinRoom most (Answered l c cl (answer.NoRoom live reserved) op) = live + reserved ≤ most
IsWithinRoom most _ = ⊤
