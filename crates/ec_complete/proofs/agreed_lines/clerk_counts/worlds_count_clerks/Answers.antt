use Rattle.ec_complete.proofs.OfAgreedLines.Worlds.{deliveries-count}
use Rattle.ec_complete.proofs.agreed_lines.clerk_counts.worlds_count_clerks.Goals as goal

pub returns : goal.returns
returns c = deliveries-count
