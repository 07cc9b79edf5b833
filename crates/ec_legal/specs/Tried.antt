-- Lines that are judged as they come.
use Rattle.std.specs.Prelude.{◌≡◌, ◌≤◌, ℕ, List, ◌++◌, take, length, ⊤}
use Rattle.ec_history.specs.Legal.{IsLegal, from_formatted}
use Rattle.ec_history.specs.Placing.{place}
use Rattle.ec_history.specs.declared.shown.Shown.{Shown}
use Rattle.ec_judge.specs.Faults.{IsFirstEntry}
use Rattle.ec_lines.specs.Faults.{IsFirstLine}
use Rattle.ec_lines.specs.Following.{Follows}
use Rattle.ec_legal.specs.Ahead.{IsAhead, AreTold, placed_from}
use Rattle.ec_legal.specs.declared.ahead.Ahead.{Ahead}
use Rattle.ec_legal.specs.declared.judging.Trial.{Trial}
use Rattle.ec_legal.specs.declared.judging.Stop.{Stop}
use Rattle.ec_legal.specs.declared.judging.Stop.TheVariants as stop

-- The entries of these lines, and of whatever comes behind them, are those judged, those that are next and those of the lines that
-- aren't placed; and those judged are legal.
pub record IsTried (most : ℕ) (t : Trial) (ss : List Shown) : Type 0 where
  pub ahead : IsAhead t.ahead ss
  pub told : AreTold ss t.ahead.settled
  pub entries : (more : List Shown) → place (ss ++ more) ≡ t.judging ++ (t.entries.items ++ placed_from (ss ++ more) t.ahead.placed)
  pub legal : IsLegal from_formatted most t.judging

-- each of the lines that are followed may follow those above it
pub record IsFollowed (a : Ahead) (ss : List Shown) : Type 0 where
  pub within : a.followed ≤ length ss
  pub follows : Follows a.following (take a.followed ss)

-- why a trial of these lines goes no further, whatever comes behind them
abbrev pub Stops : ℕ → Ahead → List Shown → Stop → Type 0
Stops most a ss (stop.Line p r) = IsFirstLine ss p r
Stops most a ss (stop.Entry p r) = IsFollowed a ss × ((more : List Shown) → IsFirstEntry from_formatted most (place (ss ++ more)) p r)
Stops most a ss stop.NoMemory = ⊤
