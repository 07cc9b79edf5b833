use Rattle.std.proofs.Common.{◌≡◌, ◌++◌, take, map}
use Rattle.ec_judge.proofs.losses.push_pairs.Given as goal

abbrev pub invariant-loop-obj : goal.invariant-loop-obj
invariant-loop-obj l = l.owed ≡ l.fn.owed ++ map (λ o. (l.op, o)) (take l.obj-index l.objs)
