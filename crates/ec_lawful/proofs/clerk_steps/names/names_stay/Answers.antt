use Rattle.ec_lawful.proofs.OfClerkSteps.ForNames.NameFrames.{names-begin, names-follow, names-read}
use Rattle.ec_lawful.proofs.clerk_steps.names.names_stay.Goals as goal

pub returns-clause-follow : goal.returns-clause-follow
returns-clause-follow z = names-follow

pub returns-clause-read : goal.returns-clause-read
returns-clause-read z = names-read

pub returns-clause-begin : goal.returns-clause-begin
returns-clause-begin z = names-begin
