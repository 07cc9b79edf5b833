use Rattle.ec_lawful.proofs.OfClerkSteps.ForNames.NamesChanging.{answers-keep, clerks-keep, ended-keeps, held-is-named, opened-keeps, ops-named, outs-keep}
use Rattle.ec_lawful.proofs.clerk_steps.names.clerks_keep_names.Goals as goal

pub returns-clause-held : goal.returns-clause-held
returns-clause-held z = held-is-named

pub returns-clause-ops : goal.returns-clause-ops
returns-clause-ops z = ops-named

pub returns-clause-change : goal.returns-clause-change
returns-clause-change z = clerks-keep

pub returns-clause-answers : goal.returns-clause-answers
returns-clause-answers z = answers-keep

pub returns-clause-outs : goal.returns-clause-outs
returns-clause-outs z = outs-keep

pub returns-clause-opened : goal.returns-clause-opened
returns-clause-opened z g c b d γ all na none age s e untaken = opened-keeps g c b d γ na all none age s e untaken

pub returns-clause-ended : goal.returns-clause-ended
returns-clause-ended z = ended-keeps
