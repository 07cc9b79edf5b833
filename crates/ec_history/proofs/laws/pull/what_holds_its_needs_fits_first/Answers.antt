use Rattle.ec_history.proofs.OfLaws.ForPlacing.Pulled.{pulled-volume, pulled-fit, pulled-fit_alone}
use Rattle.ec_history.proofs.laws.pull.what_holds_its_needs_fits_first.Goals as goal

pub returns-clause-leave : goal.returns-clause-leave
returns-clause-leave c = pulled-volume (λ k. k.update)

pub returns-clause-fit : goal.returns-clause-fit
returns-clause-fit c = pulled-fit (λ k. k.update)

pub returns-clause-alone : goal.returns-clause-alone
returns-clause-alone c = pulled-fit_alone (λ k. k.update)
