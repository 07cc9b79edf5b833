use Rattle.ec_base.specs.SortedLaws.{sorted_without}
use Rattle.ec_base.proofs.sorted.SortedMap.remove.Goals as goal

pub invariant_of-self : goal.invariant_of-self
invariant_of-self g c = sorted_without g.K.Ord.cmp c.args.key.now c.self.inside.items.items _ c.remove_in.ensures.others c.self.invariant
