use Rattle.ec_base.specs.SortedLaws.{sorted_on_some}
use Rattle.ec_base.proofs.sorted.SortedMap.replace.Goals as goal

pub invariant_of-self : goal.invariant_of-self
invariant_of-self g c = sorted_on_some g.K.Ord.cmp g.met.K.Ord.total c.replace_in.result c.args.key.now c.args.value c.self.inside.items.items _ c.replace_in.ensures.some c.replace_in.ensures.none c.self.invariant
