-- What the calls of a disk may make of its images and its counts.
use Rattle.std.specs.Prelude.{◌<◌, ◌≡◌, ◌⊎◌, ℕ, zero, suc, ◌+◌, ◌-◌, ◌≤◌, List, ◌++◌, Option, Some, None, IsSome, length, take, drop, replicate}
use Rattle.ec_base.specs.Outside.{Rose, one_more}
use Rattle.ec_disk.specs.Disk.{byte, View, Counts, after_calls, NoneDue}

-- an image with these bytes written over it; a gap past the end is zeros
abbrev pub written : ℕ → List ℕ → List ℕ → List ℕ
written at bytes old = take at old ++ replicate (at - length old) 0 ++ bytes ++ drop (at + length bytes) old

-- What writes at these places may make of an image that a crash leaves: any bytes there and past its end.
pub record Loose (Places : ℕ → Type 0) (old new : List ℕ) : Type 0 where
  pub no_shorter : length old ≤ length new
  pub outside : (place : ℕ) → place < length old → (Places place → ⊥) → byte new place ≡ byte old place

-- the places of a range
abbrev pub InRange : ℕ → ℕ → ℕ → Type 0
InRange at count place = (at ≤ place) × (place < at + count)

-- a crash leaves what a read gives and nothing else
abbrev pub IsSynced : View → Type 0
IsSynced now = (image : List ℕ) → now.may_leave image → image ≡ now.gives

-- Time goes on: since an earlier moment a crash might have left what it might have before, or what it may leave now.
pub record Elapses (old new : View) : Type 0 where
  pub later : old.moment ≤ new.moment
  pub nothing_else : (since : ℕ) (image : List ℕ) → since ≤ old.moment → new.left_since since image → old.left_since since image ⊎ new.may_leave image
  pub keeps : (since : ℕ) (image : List ℕ) → since ≤ old.moment → old.left_since since image → new.left_since since image

-- a call that writes nothing
pub record Rests (old new : View) : Type 0 where
  pub gives : new.gives ≡ old.gives
  pub crash : (image : List ℕ) → new.may_leave image → old.may_leave image
  pub time : Elapses old new

-- an image that a crash may leave, after writes at these places
abbrev pub After : View → (ℕ → Type 0) → List ℕ → Type 0
After old Places image = (before : List ℕ) × old.may_leave before × Loose Places before image

-- Writes at these places alone, whatever they answered: one that failed, stopped or found no memory counts among them too.
pub record Wrote (Places : ℕ → Type 0) (old new : View) : Type 0 where
  pub crash : (image : List ℕ) → new.may_leave image → After old Places image
  pub time : Elapses old new

-- a power cut, whatever it answered
pub record Cut (old new : View) : Type 0 where
  pub crash : (image : List ℕ) → new.may_leave image → old.may_leave image
  pub time : Elapses old new

-- Each image that a crash since the old moment might have left is good.
pub record LeavesOnly (old new : View) (Good : List ℕ → Type 0) : Type 0 where
  pub later : old.moment ≤ new.moment
  pub each : (image : List ℕ) → new.left_since old.moment image → Good image
  -- for a run that began earlier
  pub before : (since : ℕ) (image : List ℕ) → since ≤ old.moment → new.left_since since image → old.left_since since image ⊎ Good image

-- A disk that isn't armed, or has stopped: none of its turns is ahead.
abbrev pub IsUnarmed : Option ℕ → Type 0
IsUnarmed None = Unit {0}
IsUnarmed (Some left) = left ≡ 0

-- Counts don't fall, and have risen where the call answers so. Only an armed disk stops, and no call of these arms one; one that has stopped
-- stays so until it's disarmed.
pub record Counted (old new : Counts) (Failing Stopping : Type 0) : Type 0 where
  pub faults_later : old.faults ≤ new.faults
  pub stops_later : old.stops ≤ new.stops
  pub failed : Failing → Rose old.faults new.faults
  pub stopped : Stopping → Rose old.stops new.stops
  pub armed : Stopping → IsSome old.armed
  pub not_rearmed : IsSome new.armed → IsSome old.armed
  pub stays : IsUnarmed old.armed → IsUnarmed new.armed
  pub over : Stopping → IsUnarmed new.armed

-- the next read, write or sync stops
abbrev pub IsDue : Option ℕ → Type 0
IsDue None = ⊥
IsDue (Some left) = left ≤ 1

-- so many calls later
abbrev pub calls_later : ℕ → ℕ → ℕ
calls_later zero calls = calls
calls_later (suc more) calls = one_more (calls_later more calls)

-- so many reads, writes and syncs, and no other call
pub record Called (calls : ℕ) (old new : Counts) : Type 0 where
  pub numbered : new.calls ≡ calls_later calls old.calls
  pub armed : new.armed ≡ after_calls calls old.armed

-- a read, write or sync: it counts down, stops only where that is due, and is not done there
pub record CountsDown (old new : Option ℕ) (Going Stopping : Type 0) : Type 0 where
  pub next : new ≡ after_calls 1 old
  pub stops : Stopping → IsDue old
  pub goes : Going → IsDue old → ⊥

-- one of them is
abbrev pub IsDueIn : ℕ → Option ℕ → Type 0
IsDueIn turns None = ⊥
IsDueIn turns (Some left) = left ≤ turns

-- So many reads, writes and syncs, of which each but the last was done. Where all of them were, none was due; the one that stopped was.
pub record Turned (turns : ℕ) (old new : Option ℕ) (Going Stopping : Type 0) : Type 0 where
  pub next : new ≡ after_calls turns old
  pub before : NoneDue (turns - 1) old
  pub goes : Going → NoneDue turns old
  pub stops : Stopping → IsDueIn turns old
