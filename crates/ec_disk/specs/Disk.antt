-- Images of a disk, and what its calls do to them.
use Rattle.std.specs.Prelude.{ℕ, ◌-◌, ◌≤◌, List, Option, Some, None, take, drop, get_or}

-- the byte at a place, zero past the end
abbrev pub byte : List ℕ → ℕ → ℕ
byte image i = get_or image i 0

-- so many bytes from a place on
abbrev pub part : List ℕ → ℕ → ℕ → List ℕ
part image at count = take count (drop at image)

-- A disk at one moment: what a read gives, what a power cut with the choice `Old` leaves, what a crash may leave, the moment, and what a
-- crash since an earlier one might have left.
pub record View : Type 1 where
  pub gives : List ℕ
  pub synced : List ℕ
  pub may_leave : List ℕ → Type 0
  pub moment : ℕ
  pub left_since : ℕ → List ℕ → Type 0

-- How often a disk was called, failed and stopped. Each read, write, sync and question for the length has its number, from 1, which is
-- `calls` behind it: calls that are to fail are told by these numbers. Where the disk is armed, the read, write or sync of the number
-- `armed` from now on stops, and so do all calls after it; at 0 it has stopped.
pub record Counts : Type 0 where
  pub calls : ℕ
  pub faults : ℕ
  pub stops : ℕ
  pub armed : Option ℕ

-- so many reads, writes and syncs later
abbrev pub after_calls : ℕ → Option ℕ → Option ℕ
after_calls calls None = None
after_calls calls (Some left) = Some (left - calls)

-- none of so many reads, writes and syncs from now on is due to stop
abbrev pub NoneDue : ℕ → Option ℕ → Type 0
NoneDue turns None = Unit {0}
NoneDue turns (Some left) = turns ≤ left - 1
