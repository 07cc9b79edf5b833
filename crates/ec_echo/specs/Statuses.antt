-- How the program ends.
use Rattle.std.specs.Prelude.{ℕ}
use Rattle.ec_drill.specs.declared.status.Status.TheVariants as drill
use Rattle.ec_drill.specs.declared.status.Status as drilled
use Rattle.ec_lease.specs.declared.drill.status.Status as leased
use Rattle.ec_lease.specs.declared.drill.status.Status.TheVariants as lease
use Rattle.ec_mount.specs.declared.status.Status as mounted
use Rattle.ec_mount.specs.declared.status.Status.TheVariants as mount
use Rattle.ec_echo.specs.declared.status.Status.{Status}
use Rattle.ec_echo.specs.declared.status.Status.TheVariants as status

-- the number that the process answers
abbrev pub code : Status → ℕ
code status.Done = 0
code status.Usage = 2
code status.BadLine = 3
code status.SourceFault = 4
code status.SinkFault = 5
code status.DiskFault = 6
code status.BadDisk = 7
code status.NetFault = 8
code status.NoMemory = 9
code status.StartFault = 10
code status.Limit = 11
code status.Illegal = 12
code status.OldBoot = 13
code status.PeerFault = 14
code status.Spent = 15

-- the program ends as its drill does
abbrev pub of_drill : drilled.Status → Status
of_drill drill.Done = status.Done
of_drill drill.Usage = status.Usage
of_drill drill.BadLine = status.BadLine
of_drill drill.SourceFault = status.SourceFault
of_drill drill.SinkFault = status.SinkFault
of_drill drill.DiskFault = status.DiskFault
of_drill drill.BadDisk = status.BadDisk
of_drill drill.NoMemory = status.NoMemory
of_drill drill.Limit = status.Limit
of_drill drill.Spent = status.Spent

-- the program ends as its mount does
abbrev pub of_mount : mounted.Status → Status
of_mount mount.Done = status.Done
of_mount mount.BadLine = status.BadLine
of_mount mount.SourceFault = status.SourceFault
of_mount mount.SinkFault = status.SinkFault
of_mount mount.NetFault = status.NetFault
of_mount mount.NoMemory = status.NoMemory
of_mount mount.StartFault = status.StartFault
of_mount mount.Limit = status.Limit
of_mount mount.OldBoot = status.OldBoot
of_mount mount.PeerFault = status.PeerFault
of_mount mount.Spent = status.Spent

-- the program ends as its drill with leases does
abbrev pub of_leases : leased.Status → Status
of_leases lease.Done = status.Done
of_leases lease.BadLine = status.BadLine
of_leases lease.SourceFault = status.SourceFault
of_leases lease.SinkFault = status.SinkFault
of_leases lease.DiskFault = status.DiskFault
of_leases lease.BadDisk = status.BadDisk
of_leases lease.NoMemory = status.NoMemory
of_leases lease.Limit = status.Limit
of_leases lease.Spent = status.Spent
