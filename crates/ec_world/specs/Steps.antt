-- What the calls of a world promise.
use Rattle.std.specs.Prelude.{◌≡◌, ◌⊎◌, ◌≤◌, ◌+◌, ◌++◌, ◌∷◌, ℕ, List, [], Option, Some, length}
use Rattle.ec_disk.specs.declared.disk.Choice.{Choice}
use Rattle.ec_disk.specs.declared.disk.Choice.TheVariants as choice
use Rattle.ec_durable.specs.declared.state.Durable.{Durable}
use Rattle.ec_durable.specs.Durable.{formatted}
use Rattle.ec_base.specs.Limits.{clerk_count}
use Rattle.ec_history.specs.declared.shown.Shown.{Shown}
use Rattle.ec_history.specs.declared.shown.Shown.TheVariants.{Stopped}
use Rattle.ec_volume.specs.Volume.{images}
use Rattle.ec_volume.specs.declared.image.Image.TheVariants.{Gone}
use Rattle.ec_durable.specs.WellFormed.{WellFormed}
use Rattle.ec_stands.specs.Stands.{StandsFor}
use Rattle.ec_protocol.specs.World.{Fate, runs, stops_without, stops_with}

-- Opening.

-- a well-formed state, with a slot for each clerk, whose objects have ids from 1
pub record IsWhole (d : Durable) : Type 0 where
  pub formed : ∥ WellFormed d ∥₁
  pub from_one : images d.volume 0 ≡ Gone
  pub slots : length d.sessions ≡ clerk_count

-- What is opened: an empty disk is formatted, and any other one stands for the state. It's well formed in any case.
pub record Opens (tells : Type 0) (gives : List ℕ) (most : ℕ) (d : Durable) : Type 0 where
  pub whole : IsWhole d
  pub empty : tells → length gives ≡ 0 → d ≡ formatted most
  pub stands : tells → (length gives ≡ 0 → ⊥) → StandsFor gives d

-- A stop in a turn of a record's commit, of so many: whether its power cut may take the record back. In the last two turns the record is there already, and
-- `New` leaves what is there.
abbrev pub MayLack : Choice → ℕ → ℕ → Type 0
MayLack choice.New turn most = turn + 2 ≤ most
MayLack _ turn most = Unit {0}

-- And whether it may leave it: before these turns nothing is there, and `Old` leaves nothing at all.
abbrev pub MayLeave : Choice → ℕ → ℕ → Type 0
MayLeave choice.Old turn most = ⊥
MayLeave _ turn most = most ≤ turn + 1

-- a turn of a commit, which takes four, or nine and more where the journal begins anew
pub record IsTurn (turn : ℕ) (May : ℕ → ℕ → Type 0) : Type 0 where
  pub most : ℕ
  pub usual : (most ≡ 4) ⊎ (9 ≤ most)
  pub within : turn ≤ most
  pub may : May turn most

-- the one for which the disk was armed
abbrev pub InTurn : Option ℕ → (ℕ → ℕ → Type 0) → Type 0
InTurn armed May = (turn : ℕ) → armed ≡ Some turn → IsTurn turn May

-- A stop shows one line behind these, `stopped`, and its record is left by the turn in which it came and by the choice.
abbrev pub IsShown : Fate → Choice → Option ℕ → List Shown → List Shown → Type 0
IsShown runs choice armed before after = Unit {0}
IsShown stops_without choice armed before after = (after ≡ before ++ Stopped ∷ []) × InTurn armed (MayLack choice)
IsShown stops_with choice armed before after = (after ≡ before ++ Stopped ∷ []) × InTurn armed (MayLeave choice)
