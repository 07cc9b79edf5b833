use Rattle.ec_lawful.proofs.OfClerkSteps.ForJoins.CutFrames.{crash-counts, crash-cuts, lines-keep-counts, opening-keeps, same-cuts, silent-keeps, stop-keeps, waits-keeps}
use Rattle.ec_lawful.proofs.OfClerkSteps.ForJoins.Records.{records-counts, records-cuts}
use Rattle.ec_lawful.proofs.clerk_steps.joins.cut_off_starts_stay_known.Goals as goal

pub returns-clause-opening : goal.returns-clause-opening
returns-clause-opening z = opening-keeps

pub returns-clause-records : goal.returns-clause-records
returns-clause-records z g all r d v p γ steps makes now = ((λ cuts. records-cuts g all d v p cuts r γ steps makes now), λ counts. records-counts g all d v p r γ makes counts)

pub returns-clause-same : goal.returns-clause-same
returns-clause-same z = same-cuts

pub returns-clause-crash : goal.returns-clause-crash
returns-clause-crash z g all c = (crash-cuts g all c, crash-counts g all c)

pub returns-clause-lines : goal.returns-clause-lines
returns-clause-lines z = lines-keep-counts

pub returns-clause-both : goal.returns-clause-both
returns-clause-both z g = ((λ f a c b l cl r. waits-keeps g c b l cl r f a), silent-keeps g, stop-keeps g)
