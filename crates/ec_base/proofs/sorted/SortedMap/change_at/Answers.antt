use Rattle.ec_base.specs.SortedLaws.{sorted_on_change}
use Rattle.ec_base.proofs.sorted.SortedMap.change_at.Goals as goal

pub invariant_of-self : goal.invariant_of-self
invariant_of-self g c = sorted_on_change g.K.Ord.cmp g.met.K.Ord.total c.change_value.result c.args.key.now (g.C.Change.makes c.args.by.now) c.self.inside.items.items _ c.change_value.ensures.ok c.change_value.ensures.err c.self.invariant
