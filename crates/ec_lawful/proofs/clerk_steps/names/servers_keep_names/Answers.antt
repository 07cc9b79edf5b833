use Rattle.ec_lawful.proofs.OfClerkSteps.ForNames.Serving.{servers-keep, states-keep}
use Rattle.ec_lawful.proofs.clerk_steps.names.servers_keep_names.Goals as goal

pub returns-clause-states : goal.returns-clause-states
returns-clause-states z = states-keep

pub returns-clause-steps : goal.returns-clause-steps
returns-clause-steps z g v f γ all up st made na = servers-keep g v f γ all up st na made

pub returns-clause-order : goal.returns-clause-order
returns-clause-order z g f γ o = record { each = o.each }
