use Rattle.ec_base.specs.SortedLaws.{sorted_put, sorted_same}
use Rattle.ec_base.proofs.sorted.SortedMap.insert_both.Goals as goal

pub put_in-requires-2-clause-sorted : goal.put_in-requires-2-clause-sorted
put_in-requires-2-clause-sorted g c =
    sorted_put g.K.Ord.cmp g.met.K.Ord.total c.args.first.0 c.args.first.1 c.reserve.new.self.items c.put_in.new.items.items c.put_in.ensures.items
    (sorted_same g.K.Ord.cmp c.self.inside.items.items c.reserve.new.self.items c.reserve.ensures.items c.self.invariant)

pub invariant_of-self-2 : goal.invariant_of-self-2
invariant_of-self-2 g c =
    sorted_put g.K.Ord.cmp g.met.K.Ord.total c.args.second.0 c.args.second.1 c.put_in.new.items.items c.put_in-2.new.items.items c.put_in-2.ensures.items
    (sorted_put g.K.Ord.cmp g.met.K.Ord.total c.args.first.0 c.args.first.1 c.reserve.new.self.items c.put_in.new.items.items c.put_in.ensures.items
    (sorted_same g.K.Ord.cmp c.self.inside.items.items c.reserve.new.self.items c.reserve.ensures.items c.self.invariant))
