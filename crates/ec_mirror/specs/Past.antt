-- A mirror at one moment, and at those before.
use Rattle.std.specs.Prelude.{◌≡◌, ◌⊎◌, ◌≤◌, ℕ, List, length, Some, slice_get}
use Rattle.ec_disk.specs.Disk.{View}
use Rattle.ec_half.specs.Contents.{Content}

module _ {M : Type 0} (of : M → Content) where
  -- what a crash might have left since an earlier moment: now, or at one of those before
  abbrev pub LeftSince : List M → Content → ℕ → List ℕ → Type 0
  LeftSince past now since c = now.may_leave c ⊎ ((i : ℕ) × (m : M) × (since ≤ i) × (slice_get past i ≡ Some m) × (of m).may_leave c)

  abbrev pub view_at : List M → Content → View
  view_at past now = record { gives = now.gives; synced = now.synced; may_leave = now.may_leave; moment = length past; left_since = LeftSince past now }
