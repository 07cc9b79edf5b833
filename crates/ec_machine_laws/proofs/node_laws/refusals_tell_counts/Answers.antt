use Rattle.ec_machine_laws.proofs.OfNodeLaws.Refused.{ends-refuse-none, starts-refuse-none, takes-count}
use Rattle.ec_machine_laws.proofs.node_laws.refusals_tell_counts.Goals as goal

pub returns-clause-takes : goal.returns-clause-takes
returns-clause-takes c = takes-count

pub returns-clause-ends : goal.returns-clause-ends
returns-clause-ends c = ends-refuse-none

pub returns-clause-starts : goal.returns-clause-starts
returns-clause-starts c = starts-refuse-none
