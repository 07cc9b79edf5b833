use Rattle.std.proofs.Common.{◌≡◌, ◌<◌, ◌-◌, length}
use Rattle.ec_journal.specs.Records.{records, Front}
use Rattle.ec_journal.proofs.read.records_in.Given as goal

abbrev pub invariant-records : goal.invariant-records
invariant-records l = Front l.bytes 0 l.bodies.items × (l.end ≡ length (records l.bodies.items)) × (l.end < length l.bytes)

abbrev pub decreases-records : goal.decreases-records
decreases-records l = length l.bytes - l.end
