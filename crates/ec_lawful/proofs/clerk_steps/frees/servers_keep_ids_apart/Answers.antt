use Rattle.ec_lawful.proofs.OfClerkSteps.ForNames.Moves.{servers-keep-frees}
use Rattle.ec_lawful.proofs.OfClerkSteps.ForDoings.FreesStored.{frees-begin, frees-read}
use Rattle.ec_lawful.proofs.OfClerkSteps.ForNames.Storing.{moves-follow, states-keep-frees}
use Rattle.ec_lawful.proofs.clerk_steps.frees.servers_keep_ids_apart.Goals as goal

pub returns-clause-states : goal.returns-clause-states
returns-clause-states z g all na fa d v p γ next m = states-keep-frees g (all.0).images na fa (all.0).sessions d v p γ m

pub returns-clause-follow : goal.returns-clause-follow
returns-clause-follow z g all na γ m = moves-follow g (all.0).images na γ m

pub returns-clause-steps : goal.returns-clause-steps
returns-clause-steps z g v f γ all up st m na fa = servers-keep-frees g v f γ all up st m na fa

pub returns-clause-read : goal.returns-clause-read
returns-clause-read z = frees-read

pub returns-clause-begin : goal.returns-clause-begin
returns-clause-begin z = frees-begin
