use Rattle.ec_quiet.proofs.OfDeliveries.Idling.{in-stays, idle-stays}
use Rattle.ec_quiet.proofs.OfDeliveries.Backed.{returned-idle}
use Rattle.ec_quiet.proofs.deliveries.idle.idle_clerks_stay_idle.Goals as goal

pub returns-clause-inside : goal.returns-clause-inside
returns-clause-inside c = in-stays

pub returns-clause-idle : goal.returns-clause-idle
returns-clause-idle c = idle-stays

pub returns-clause-returned : goal.returns-clause-returned
returns-clause-returned c = returned-idle
