use Rattle.std.proofs.Common.{length}
use Rattle.ec_codes.proofs.read_updates.+leads.Given as goal

abbrev pub decreases-leads : goal.decreases-leads
decreases-leads l = length l.up.now
