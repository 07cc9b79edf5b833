-- Runs whose lines show what the headline says.
use Rattle.std.specs.Prelude.{◌+◌, ◌≤◌, ℕ, List, [], length}
use Rattle.ec_volume.specs.Volume.{Images, WellFormed}
use Rattle.ec_history.specs.History.{Base}
use Rattle.ec_history.specs.Lines.{IsStored}
use Rattle.ec_history.specs.Placing.{EachLine}
use Rattle.ec_history.specs.declared.shown.Shown.{Shown}
use Rattle.ec_lawful.specs.Headline.{FrontsAreLawful, Lines, Pieces, joined, InScript, ArePieces, AreEndsAsked}

-- The lines show a lawful run, and the disk has this volume then.
pub record ShowLawfully (base : Base) (most : ℕ) (ss : List Shown) (disk : Images) : Type 0 where
  pub fronts : FrontsAreLawful base most ss
  -- the disk's volume is well formed, and has the shape that the operations leave which durable lines name, in the history's order
  pub formed : WellFormed disk
  pub stored : IsStored base ss disk

-- The headline of a run over these lines of a script, which gave these pieces, one for each line and perhaps one for the restart at the end.
pub record IsLawfulRun (base : Base) (most : ℕ) (lines : Lines) (pieces : Pieces) (disk : Images) : Type 0 where
  pub shows : ShowLawfully base most (joined pieces) disk
  -- each answer is that of a line of the script, with its clerk and its call
  pub own_calls : EachLine (InScript lines) (joined pieces)
  pub counted : length pieces ≤ length lines + 1
  pub numbered : ArePieces 1 [] pieces
  -- no session ends but by a crash or an end
  pub losses : AreEndsAsked lines pieces
