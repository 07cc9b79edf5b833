use Rattle.std.proofs.Common.{◌≡◌, ◌++◌, length, map}
use Rattle.std.specs.Vec.Iter.{into_iter_items, into_iter_len}
use Rattle.ec_mounts.proofs.losses.put_lists.Given as goal

abbrev pub invariant-lists : goal.invariant-lists
invariant-lists l =
    (l.told.items ++ map (λ ops. (l.place, ops)) (into_iter_items l.list-iterator) ≡ l.fn.told.items ++ map (λ ops. (l.place, ops)) l.fn.lists.items)
    × (into_iter_len l.list-iterator ≡ length (into_iter_items l.list-iterator))
