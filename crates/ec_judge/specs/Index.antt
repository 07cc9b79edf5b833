-- An index of the starts of clerks. No public clause cites this module.
use Rattle.std.specs.Prelude.{◌≡◌, ◌<◌, ℕ, List, length, Option, MatchOption}
use Rattle.std.specs.List.{position_or_len}
use Rattle.ec_history.specs.History.{same_start}
use Rattle.ec_judge.specs.declared.carried.Start.{Start}

-- the index of the start, or the count of all
abbrev pub place : ℕ → ℕ → List Start → ℕ
place c b ss = position_or_len (λ s. same_start c b s.clerk s.boot) ss

-- the index knows each of these starts, and no other
abbrev pub IsStartIndex : (ℕ → ℕ → Option ℕ) → List Start → Type 0
IsStartIndex known ss = (c b : ℕ) → MatchOption (known c b) (place c b ss ≡ length ss) (λ i. (i ≡ place c b ss) × (i < length ss))

-- the same starts at the same places
pub record SamePlaces (old new : List Start) : Type 0 where
  pub count : length new ≡ length old
  pub places : (c b : ℕ) → place c b new ≡ place c b old
