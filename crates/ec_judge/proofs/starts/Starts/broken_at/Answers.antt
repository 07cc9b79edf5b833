use Rattle.ec_order.specs.OfNumbers.Starts.{indexed}
use Rattle.ec_judge.proofs.Places.{index-same}
use Rattle.ec_judge.proofs.starts.Starts.broken_at.Goals as goal

pub invariant_of-self : goal.invariant_of-self
invariant_of-self c = index-same (indexed c.self.inside.index) c.self.inside.items.items c.broken_at.new.starts.items c.self.invariant c.broken_at.ensures.same
