use Rattle.ec_complete.proofs.ForLines.Below.{counters-spare, next-spare}
use Rattle.ec_complete.proofs.line_counts.counters_are_spare.Goals as goal

pub returns-clause-counters : goal.returns-clause-counters
returns-clause-counters c = counters-spare

pub returns-clause-next : goal.returns-clause-next
returns-clause-next c = next-spare
