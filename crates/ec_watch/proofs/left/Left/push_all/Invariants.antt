use Rattle.std.proofs.Common.{◌≡◌, ◌++◌, take}
use Rattle.ec_watch.proofs.left.Left.push_all.Given as goal

abbrev pub invariant-loop-op : goal.invariant-loop-op
invariant-loop-op l = l.self ≡ l.fn.self ++ take l.op-index l.ops
