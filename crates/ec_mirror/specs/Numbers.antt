-- Which generations the disks of a mirror have.
use Rattle.std.specs.Prelude.{◌≡◌, ◌<◌, ◌≤◌, ℕ}
use Rattle.ec_mirror.specs.declared.kept.Kept.{Kept}
use Rattle.ec_mirror.specs.declared.kept.Kept.TheVariants as left

-- A disk that isn't dropped has this one, and may hold no greater one. A dropped disk may only hold smaller ones.
pub record Numbered (kept : Kept) (first first_most second second_most number : ℕ) : Type 0 where
  pub first_is : (kept ≡ left.Second → ⊥) → first ≡ number
  pub first_bound : (kept ≡ left.Second → ⊥) → first_most ≤ number
  pub second_is : (kept ≡ left.First → ⊥) → second ≡ number
  pub second_bound : (kept ≡ left.First → ⊥) → second_most ≤ number
  pub first_older : kept ≡ left.Second → first_most < number
  pub second_older : kept ≡ left.First → second_most < number
