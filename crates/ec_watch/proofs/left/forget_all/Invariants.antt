use Rattle.std.proofs.Common.{◌≡◌, T, not, filter, take}
use Rattle.std.specs.FinMap.{is_sorted}
use Rattle.std.specs.Ordering.{nat_cmp}
use Rattle.ec_volume.specs.Update.{member}
use Rattle.ec_watch.specs.Left.{left}
use Rattle.ec_watch.proofs.left.forget_all.Given as goal

abbrev pub invariant-loop-op : goal.invariant-loop-op
invariant-loop-op l = T (is_sorted nat_cmp l.rising) × (left l.rising ≡ filter (λ n. not (member n (take l.op-index l.ops))) (left l.fn.rising))
