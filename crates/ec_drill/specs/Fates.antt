-- What the disk did in the steps of a run, and whether that is known.
use Rattle.std.specs.Prelude.{◌≡◌, ◌⊎◌, ℕ}
use Rattle.ec_base.specs.Outside.{Rose}
use Rattle.ec_history.specs.History.{Each}
use Rattle.ec_protocol.specs.World.{runs}
use Rattle.ec_protocol.specs.Drill.{Fates}

abbrev pub AllRun : Fates → Type 0
AllRun fates = Each (λ f. f ≡ runs) fates

-- What a stop leaves is read back from the disk. So what a run did is known on a disk that tells its content, and on one that didn't stop.
abbrev pub IsKnown : Type 0 → ℕ → ℕ → Type 0
IsKnown tells before now = tells ⊎ (Rose before now → ⊥)
