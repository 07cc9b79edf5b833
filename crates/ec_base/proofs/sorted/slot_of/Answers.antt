use Rattle.std.proofs.Common.{rules}
use Rattle.std.proofs.lemmas.Fn.{always_returns_same}
use Rattle.ec_base.specs.SortedLaws.{searched}
use Rattle.ec_base.proofs.sorted.slot_of.Goals as goal

pub returns : goal.returns
returns g c =
    let key = c.args.key.now in
    let ordered = c.binary_search_by.ensures.position (λ pair. g.K.Ord.cmp pair.0 key) (always_returns_same _ _ _ (λ a r f called. search rules)) in
    searched g.K.Ord.cmp g.met.K.Ord.total key c.args.items.now _ c.requires c.binary_search_by.ensures.bound ordered
