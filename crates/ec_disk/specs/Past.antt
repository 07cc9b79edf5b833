-- A disk in memory by the list of its writes, syncs and power cuts.
use Rattle.std.specs.Prelude.{◌<◌, ◌≡◌, ◌⊎◌, ℕ, ◌≤◌, Bool, true, false, List, [], ◌∷◌, length, take}
use Rattle.ec_disk.specs.Choices.{cut}
use Rattle.ec_disk.specs.Disk.{View, byte}
use Rattle.ec_disk.specs.Effects.{written, InRange}
use Rattle.ec_disk.specs.declared.memory.Step.{Step}
use Rattle.ec_disk.specs.declared.memory.Step.TheVariants as step

-- what is there, what the last sync left, the places written since, and whether there were any writes
pub record Shot : Type 1 where
  pub now : List ℕ
  pub synced : List ℕ
  pub places : ℕ → Type 0
  pub dirty : Bool

abbrev pub clean : List ℕ → Shot
clean image = record { now = image; synced = image; places = λ place. ⊥; dirty = false }

abbrev pub apply : Shot → Step → Shot
apply shot (step.Write at bytes) = record { now = written at bytes shot.now; synced = shot.synced; places = λ place. shot.places place ⊎ InRange at (length bytes) place; dirty = true }
apply shot step.Sync = clean shot.now
apply shot (step.Cut choice) = clean (cut choice shot.now shot.synced)

abbrev pub apply_all : Shot → List Step → Shot
apply_all shot [] = shot
apply_all shot (next ∷ log) = apply_all (apply shot next) log

abbrev pub shot_of : List Step → Shot
shot_of log = apply_all (clean []) log

-- What a crash may leave: the synced bytes outside the written places, and anything past their end once there was a write.
pub record Left (shot : Shot) (image : List ℕ) : Type 0 where
  pub no_shorter : length shot.synced ≤ length image
  pub outside : (place : ℕ) → place < length shot.synced → (shot.places place → ⊥) → byte image place ≡ byte shot.synced place
  pub nothing_written : shot.dirty ≡ false → image ≡ shot.now

-- what a crash might have left at a moment, the number of steps before it, from an earlier one on
abbrev pub LeftSince : List Step → ℕ → List ℕ → Type 0
LeftSince log since image = (moment : ℕ) × (since ≤ moment) × (moment ≤ length log) × Left (shot_of (take moment log)) image

abbrev pub view_of : List Step → View
view_of log = record { gives = (shot_of log).now; synced = (shot_of log).synced; may_leave = Left (shot_of log); moment = length log; left_since = LeftSince log }
