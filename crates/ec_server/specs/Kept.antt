-- What a keeper of the durable state promises.
use Rattle.std.specs.Prelude.{◌≡◌, ◌+◌, ◌≤◌, ℕ, Ok, Err, Some, IsSome}
use Rattle.ec_disk.specs.Disk.{Counts}
use Rattle.ec_disk.specs.Effects.{IsUnarmed}
use Rattle.ec_sessions.specs.Limits.{ids_per_grant}
use Rattle.ec_sessions.specs.declared.slot.Slot.{Slot}
use Rattle.ec_durable.specs.Durable.{step, slot}
use Rattle.ec_durable.specs.declared.state.Durable.{Durable}
use Rattle.ec_durable.specs.declared.record.Record.{Record}
use Rattle.ec_durable.specs.declared.record.RecordFault.{RecordFault}
use Rattle.ec_server.specs.declared.keeper.KeepFault.{KeepFault}
use Rattle.ec_server.specs.declared.keeper.KeepFault.TheVariants.{Refused, DiskFailed, DiskStopped, NoMemory}

-- What is left of a keeper of this state by a record that isn't committed: a refusal changes nothing. A fault of the disk is of a record that
-- the state would take, and leaves it in doubt. So may want of memory.
abbrev pub KeeperRefuses : {K : Type 0} → (K → Record → K → Type 0) → KeepFault → Record → Durable → K → K → Type 0
KeeperRefuses broke (Refused fault) r d old new = (step r d ≡ Err fault) × (new ≡ old)
KeeperRefuses broke DiskFailed r d old new = ((e : Durable) × (step r d ≡ Ok e)) × broke old r new
KeeperRefuses broke DiskStopped r d old new = ((e : Durable) × (step r d ≡ Ok e)) × broke old r new
KeeperRefuses broke NoMemory r d old new = broke old r new × ((fault : RecordFault) → step r d ≡ Err fault → new ≡ old)

-- The ids to come are ids, and so are those of each slot's last grant.
pub record HasIds (d : Durable) : Type 0 where
  pub next : 1 ≤ d.next_id
  pub grants : (c : ℕ) (sl : Slot) (first : ℕ) → slot d c ≡ Some sl → sl.last_first ≡ Some first → first + ids_per_grant ≤ d.next_id

-- Counts don't fall, nothing arms a disk, and one that stopped stays stopped.
pub record IsLater (old new : Counts) : Type 0 where
  pub faults : old.faults ≤ new.faults
  pub stops : old.stops ≤ new.stops
  pub armed : IsSome new.armed → IsSome old.armed
  pub stays : IsUnarmed old.armed → IsUnarmed new.armed
