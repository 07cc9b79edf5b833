use Rattle.ec_quiet.proofs.Beside.{other-measure, own-comes, own-measure}
use Rattle.ec_quiet.proofs.clerk_phases.steps_change_their_part.Goals as goal

pub returns-clause-come : goal.returns-clause-come
returns-clause-come z j sc p q is before now d rest m f = own-comes j sc p q is before now d rest m f

pub returns-clause-own : goal.returns-clause-own
returns-clause-own z j w ts clerks before now rising there = own-measure j w ts clerks before now rising there

pub returns-clause-other : goal.returns-clause-other
returns-clause-other z j w ts clerks c before now n rising there = other-measure j w ts clerks c before now n rising there
