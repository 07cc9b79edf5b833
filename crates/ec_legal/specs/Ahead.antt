-- Lines that are placed block by block, while more of them are followed.
use Rattle.std.specs.Prelude.{◌≡◌, ◌≤◌, ◌<◌, ◌⊎◌, ◌||◌, ltb, ℕ, T, Bool, if◌then◌else◌, List, take, drop, length, is_none}
use Rattle.ec_base.specs.Limits.{clerk_count}
use Rattle.ec_history.specs.History.{History}
use Rattle.ec_history.specs.Placing.{watch, place_from}
use Rattle.ec_history.specs.declared.shown.Shown.{Shown}
use Rattle.ec_watch.specs.Watches.{AreWatched}
use Rattle.ec_lines.specs.Following.{Follows}
use Rattle.ec_legal.specs.declared.ahead.Ahead.{Ahead}

-- each loss above this line is told above it
abbrev pub AreTold : List Shown → ℕ → Type 0
AreTold ss n = (c : ℕ) → c < clerk_count → T (is_none (watch c (take n ss)).untold)

-- No answer from this line on stands with a loss above: there is none, or each loss above is told.
abbrev pub IsSettled : List Shown → ℕ → Type 0
IsSettled ss n = (n ≡ length ss) ⊎ AreTold ss n

-- what the lines from this one on give
abbrev pub placed_from : List Shown → ℕ → History
placed_from ss n = place_from (take n ss) (drop n ss)

-- The lines are settled at least as far as they are placed, and followed at least as far as that.
pub record IsAhead (a : Ahead) (ss : List Shown) : Type 0 where
  pub behind : a.placed ≤ a.settled
  pub known : a.settled ≤ a.followed
  pub within : a.followed ≤ length ss
  pub follows : Follows a.following (take a.followed ss)
  pub settles : IsSettled ss a.settled
  pub watched : AreWatched a.watches.items (take a.placed ss)

-- More of the lines can be placed, or followed where they aren't the last ones.
abbrev pub is_left : Ahead → List Shown → Bool → Bool
is_left a ss last = if last then ltb a.placed (length ss) else (ltb a.placed a.settled || ltb a.followed (length ss))
