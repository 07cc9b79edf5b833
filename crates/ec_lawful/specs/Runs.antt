-- What a whole run shows, where all facts are kept.
use Rattle.std.specs.Prelude.{◌≡◌, ◌≤◌, ◌+◌, ℕ, List, [], length, take}
use Rattle.ec_volume.specs.Volume.{Fits, Images, WellFormed, images}
use Rattle.ec_history.specs.History.{kept, updates}
use Rattle.ec_history.specs.Lines.{IsStored}
use Rattle.ec_history.specs.Placing.{EachLine, place}
use Rattle.ec_protocol.specs.Drill.{Ran, Read}
use Rattle.ec_coherence.specs.System.{System}
use Rattle.ec_lawful.specs.Headline.{AreEndsAsked, ArePieces, FrontsAreLawful, InScript, Lines, joined, placed_on}
use Rattle.ec_lawful.specs.Drills.{lines_in}
use Rattle.ec_lawful.specs.DrillRuns.{IsUnspent}
use Rattle.ec_lawful.specs.Whole.{Whole}

-- all facts of a system in a run over this volume, with at most so many objects
pub record OfRun (v : Images) (most : ℕ) (g : System) : Type 0 where
  pub whole : Whole g
  pub origin : g.origin ≡ v
  pub most_is : g.durable.max_objects ≡ most

-- The run carried out the first lines of the script. On the volume at the beginning, where new objects have as ids the places of their calls' lines above this one,
-- the lines that it gave are lawful, each front of them too; each answer is that of its line; no session ends unasked; and the disk's volume is what durable lines leave.
pub record RunShows (v : Images) (top most : ℕ) (ls : List Read) (r : Ran) : Type 0 where
  pub lines : Lines
  pub front : lines ≡ take (length lines) (lines_in ls)
  pub counted : length r.pieces ≤ length lines + 2
  pub own_calls : EachLine (InScript lines) (joined r.pieces)
  -- no session ends but by a crash or an end
  pub ends : AreEndsAsked lines r.pieces
  -- the first line of each call stands in the piece of its number
  pub numbered : ArePieces 1 [] r.pieces
  pub fronts : FrontsAreLawful (placed_on v top) most (joined r.pieces)
  -- at the end each update that is kept fits
  pub fit : Fits v (updates (kept (placed_on v top) (place (joined r.pieces))))
  pub formed : IsUnspent r.ending → WellFormed (images r.world.durable.volume)
  pub stored : IsUnspent r.ending → IsStored (placed_on v top) (joined r.pieces) (images r.world.durable.volume)
