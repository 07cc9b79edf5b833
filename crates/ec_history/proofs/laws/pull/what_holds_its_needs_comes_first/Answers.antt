use Rattle.ec_history.proofs.OfLaws.ForPlacing.Pulled.{pulled-after, pulled-fits, pulled-alone}
use Rattle.ec_history.proofs.laws.pull.what_holds_its_needs_comes_first.Goals as goal

pub returns-clause-leave : goal.returns-clause-leave
returns-clause-leave c = pulled-after (λ k. k.update)

pub returns-clause-fit : goal.returns-clause-fit
returns-clause-fit c = pulled-fits (λ k. k.update)

pub returns-clause-alone : goal.returns-clause-alone
returns-clause-alone c = pulled-alone (λ k. k.update)
