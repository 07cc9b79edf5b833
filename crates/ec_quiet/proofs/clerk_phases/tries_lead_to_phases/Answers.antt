use Rattle.ec_quiet.proofs.Going.{goes}
use Rattle.ec_quiet.proofs.Granting.{grants-go-on}
use Rattle.ec_quiet.proofs.Tries.{roomy-try}
use Rattle.ec_quiet.proofs.clerk_phases.tries_lead_to_phases.Goals as goal

pub returns-clause-ready : goal.returns-clause-ready
returns-clause-ready z j sc p q alone noted rest main-rest sl k r m = goes j sc p q alone noted rest main-rest sl k r m.call m.is m.waits m.counters m.touches m.evicts

pub returns-clause-grants : goal.returns-clause-grants
returns-clause-grants z j sc x h n rest q head out may = grants-go-on j sc x h n rest q head out may

pub returns-clause-roomy : goal.returns-clause-roomy
returns-clause-roomy z n w k c l = roomy-try n w k c l
