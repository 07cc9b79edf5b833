use Rattle.ec_admission.specs.Waits.{drop_bound}
use Rattle.ec_admission.proofs.waiting.Waiting.drop_session.Goals as goal

pub invariant_of-self : goal.invariant_of-self
invariant_of-self c = drop_bound c.args.session c.self.inside.wants c.drop_session.new.self c.self.inside.noted c.drop_session.ensures c.self.invariant
