use Rattle.std.proofs.Common.{T, subst, sym}
use Rattle.std.specs.Ordering.{nat_cmp}
use Rattle.std.specs.FinMap.{is_sorted}
use Rattle.ec_cache.proofs.Lists.{sorted-emptied}
use Rattle.ec_cache.proofs.slots.emptied.Goals as goal

pub of-requires : goal.of-requires
of-requires c =
    let sorted = subst (λ es. T (is_sorted nat_cmp es)) (sym c.items-obj-items.ensures.value) c.items-obj-items.ensures.sorted in
    subst (λ es. T (is_sorted nat_cmp es)) (sym c.loop-obj.invariant) (sorted-emptied c.loop-obj.obj-index c.items-obj-items.result.now sorted)
