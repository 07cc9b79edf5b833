use Rattle.ec_history.proofs.OfLaws.ForPlacing.Watching.{closed-undurable, untold-runs, running-counted, open-counted}
use Rattle.ec_history.proofs.laws.placing.watched_starts_are_counted.Goals as goal

pub returns-clause-untold : goal.returns-clause-untold
returns-clause-untold c = untold-runs

pub returns-clause-running : goal.returns-clause-running
returns-clause-running c = running-counted

pub returns-clause-opened : goal.returns-clause-opened
returns-clause-opened c = open-counted

pub returns-clause-closed : goal.returns-clause-closed
returns-clause-closed c = closed-undurable
