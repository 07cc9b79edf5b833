-- What a drill meets outside of itself, before and after: each kind of it stands once.
use Rattle.std.specs.Prelude.{ℕ, List, Option}
use Rattle.ec_disk.specs.Disk.{View, Counts}

-- A source or a sink: the bytes that it has left or holds, where it tells them, and how often it failed.
pub record Stream : Type 0 where
  pub bytes : Option (List ℕ)
  pub bytes_after : Option (List ℕ)
  pub faults : ℕ
  pub faults_after : ℕ

-- A disk: whether it tells its content, what it gives and may leave, and its counts.
pub record Store : Type 1 where
  pub tells : Type 0
  pub disk : View
  pub disk_after : View
  pub counts : Counts
  pub counts_after : Counts
