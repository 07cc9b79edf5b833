use Rattle.ec_base.specs.SortedLaws.{sorted_on_ok}
use Rattle.ec_base.proofs.sorted.SortedMap.insert.Goals as goal

pub invariant_of-self : goal.invariant_of-self
invariant_of-self g c = sorted_on_ok g.K.Ord.cmp g.met.K.Ord.total c.insert_in.result c.args.key c.args.value c.self.inside.items.items _ c.insert_in.ensures.ok c.insert_in.ensures.err c.self.invariant
