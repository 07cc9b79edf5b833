use Rattle.ec_admission.specs.Waits.{want_bound}
use Rattle.ec_admission.proofs.waiting.Waiting.want.Goals as goal

pub invariant_of-self : goal.invariant_of-self
invariant_of-self c = want_bound c.want.result c.args.session c.args.obj c.args.hold c.self.inside.wants c.want.new.self c.self.inside.noted c.want.ensures.ok c.want.ensures.err c.self.invariant
