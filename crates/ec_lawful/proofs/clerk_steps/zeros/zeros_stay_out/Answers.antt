use Rattle.ec_lawful.proofs.OfClerkSteps.ForNames.ZerosBehind.{changed-keeps, opening-keeps, records-keep, same-keeps, steps-keep}
use Rattle.ec_lawful.proofs.OfClerkSteps.ForNames.Parts.{have-no-zero, ids-have-none}
use Rattle.ec_lawful.proofs.clerk_steps.zeros.zeros_stay_out.Goals as goal

pub returns-clause-opening : goal.returns-clause-opening
returns-clause-opening z = opening-keeps

pub returns-clause-records : goal.returns-clause-records
returns-clause-records z g zeros r d v p γ steps makes = records-keep g zeros d v p r γ steps makes

pub returns-clause-changes : goal.returns-clause-changes
returns-clause-changes z g h e = (same-keeps g h e, changed-keeps g h e)

pub returns-clause-steps : goal.returns-clause-steps
returns-clause-steps z = steps-keep

pub returns-clause-functions : goal.returns-clause-functions
returns-clause-functions z = have-no-zero

pub returns-clause-ids : goal.returns-clause-ids
returns-clause-ids z = ids-have-none
