use Rattle.std.proofs.Common.{rules}
use Rattle.std.specs.Ordering.{nat_cmp}
use Rattle.std.proofs.lemmas.Fn.{always_returns_same}
use Rattle.ec_log.proofs.OfChains.Live.{slotted}
use Rattle.ec_log.proofs.chains.slots.slot_of.Goals as goal

pub returns : goal.returns
returns c =
    let op = c.args.op in
    let ordered = c.binary_search_by.ensures.position (λ pair. nat_cmp pair.0 op) (always_returns_same _ _ _ (λ a r f called. search rules)) in
    slotted op c.args.held.now _ c.requires c.binary_search_by.ensures.bound ordered
