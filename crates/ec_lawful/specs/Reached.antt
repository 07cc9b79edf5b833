-- The worlds of all runs over a durable state, between two steps, and what holds of each.
use Rattle.std.specs.Prelude.{ℕ}
use Rattle.ec_volume.specs.Volume.{Images}
use Rattle.ec_history.specs.Placing.{place}
use Rattle.ec_protocol.specs.declared.world.World.{World}
use Rattle.ec_history.specs.OfLaws.Placing.{IsReading}
use Rattle.ec_lawful.specs.Headline.{FrontsAreLawful, IsGreatest, placed_on}
use Rattle.ec_lawful.specs.Coherent.{AreFitting, IsCoherent}

-- A world that began on this volume, with at most so many objects.
pub record IsInOrder (v : Images) (most : ℕ) (w : World) : Type 0 where
  -- in the history of its lines a new object has the greatest id of the volume plus the place of its call's line, and each front of them is lawful
  pub top : ℕ
  pub greatest : IsGreatest v top
  pub lawful : FrontsAreLawful (placed_on v top) most w.shown
  -- in the world it has the id at its place, which is read so; ids of the volume are read as themselves
  pub ids : ℕ → ℕ
  pub read : ℕ → ℕ
  pub reads : IsReading v ids top (place w.shown) read
  -- what its clerks hold is what is kept, and no two hold conflicting tokens
  pub coherent : IsCoherent (placed_on v top) read w
  -- what is kept at each entry, and so behind each loss, fits and leaves a well-formed volume
  pub fitting : AreFitting (placed_on v top) (place w.shown)
