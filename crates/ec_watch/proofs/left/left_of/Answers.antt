use Rattle.std.proofs.Common.{rules}
use Rattle.ec_watch.proofs.Remaining.{next-left, next-gone}
use Rattle.ec_watch.proofs.left.left_of.Goals as goal
use Rattle.ec_watch.proofs.left.left_of.Goals.{then-is_left+in_ok-push, else-is_left}

pub loop-op-preserved : goal.loop-op-preserved
loop-op-preserved c =
    let es = c.items-op-items.result.now in
    let i = c.loop-op.op-index in
    let e = c.loop-op-item.result in
    elim c.if-is_left.branch [
      | then-is_left+in_ok-push w ↦ next-left es i e c.loop-op.ops.items c.if-is_left.ops.items c.loop-op-test.true c.loop-op-item.is w.if-is_left.true c.loop-op.invariant (search rules)
      | else-is_left w ↦ next-gone es i e c.loop-op.ops.items c.if-is_left.ops.items c.loop-op-test.true c.loop-op-item.is w.if-is_left.false c.loop-op.invariant (search rules)
    ]
