-- What the disk did in a part of a run, by its count of stops.
use Rattle.std.specs.Prelude.{◌⊎◌, ℕ, List}
use Rattle.ec_base.specs.Outside.{Rose}
use Rattle.ec_protocol.specs.Drill.{Fates}
use Rattle.ec_history.specs.History.{Each}
use Rattle.ec_drill.specs.Fates.{AllRun}

-- Of a part of a run: a step is stopped only where the disk's stops rose.
abbrev pub AreOf : List Fates → ℕ → ℕ → Type 0
AreOf fates before now = Each AllRun fates ⊎ Rose before now
