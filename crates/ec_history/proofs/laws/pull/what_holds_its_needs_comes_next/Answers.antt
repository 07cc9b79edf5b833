use Rattle.ec_history.proofs.OfLaws.ForPlacing.Pulled.{next-after, next-fits}
use Rattle.ec_history.proofs.laws.pull.what_holds_its_needs_comes_next.Goals as goal

pub returns-clause-leave : goal.returns-clause-leave
returns-clause-leave c = next-after (λ k. k.update)

pub returns-clause-fit : goal.returns-clause-fit
returns-clause-fit c = next-fits (λ k. k.update)
