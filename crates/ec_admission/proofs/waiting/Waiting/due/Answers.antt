use Rattle.ec_admission.specs.Waits.{due_bound}
use Rattle.ec_admission.proofs.waiting.Waiting.due.Goals as goal

pub invariant_of-self : goal.invariant_of-self
invariant_of-self c = due_bound c.due.result c.args.tokens.now c.self.inside.wants c.due.new.self c.self.inside.noted c.due.ensures.wants c.due.ensures.err c.self.invariant
