-- How often a thread couldn't be started doesn't fall in a mount.
use Rattle.std.proofs.Common.{◌≡◌, ◌≤◌, ◌+◌, ℕ, arith}
use Rattle.ec_mount.specs.Mount.{StartsAs}
use Rattle.ec_mount.specs.declared.status.Status.{Status}
use Rattle.ec_mount.specs.declared.status.Status.TheVariants as status

pub starts_later : (end : Status) (before later : ℕ) → StartsAs end before later → before ≤ later
starts_later status.Done before later e = grind (arith, e)
starts_later status.BadLine before later e = grind (arith, e)
starts_later status.SourceFault before later e = grind (arith, e)
starts_later status.SinkFault before later e = grind (arith, e)
starts_later status.NetFault before later e = grind (arith, e)
starts_later status.NoMemory before later e = grind (arith, e)
starts_later status.Limit before later e = grind (arith, e)
starts_later status.OldBoot before later e = grind (arith, e)
starts_later status.PeerFault before later e = grind (arith, e)
starts_later status.Spent before later e = grind (arith, e)
starts_later status.StartFault before later e = grind (arith, e)
