-- The numbers that the process answers.
use Rattle.std.specs.Prelude.{ℕ}
use Rattle.ec_drill.specs.declared.status.Status.{Status}
use Rattle.ec_drill.specs.declared.status.Status.TheVariants as status

-- the number that the process answers
abbrev pub code : Status → ℕ
code status.Done = 0
code status.Usage = 2
code status.BadLine = 3
code status.SourceFault = 4
code status.SinkFault = 5
code status.DiskFault = 6
code status.BadDisk = 7
code status.NoMemory = 9
code status.Limit = 11
code status.Spent = 15
