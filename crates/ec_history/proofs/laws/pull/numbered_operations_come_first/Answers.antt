use Rattle.ec_history.proofs.OfLaws.ForPlacing.Pulled.{pulled-volume, pulled-fit, pulled-fit_alone}
use Rattle.ec_history.proofs.laws.pull.numbered_operations_come_first.Goals as goal

pub returns-clause-leave : goal.returns-clause-leave
returns-clause-leave c = pulled-volume (λ x. x.1)

pub returns-clause-fit : goal.returns-clause-fit
returns-clause-fit c = pulled-fit (λ x. x.1)

pub returns-clause-alone : goal.returns-clause-alone
returns-clause-alone c = pulled-fit_alone (λ x. x.1)
