use Rattle.std.proofs.Common.{arith}
use Rattle.ec_sessions.proofs.OfTokens.RowLemmas.{conflict_left}
use Rattle.ec_sessions.proofs.tokens.rows.first_conflict.Goals as goal
use Rattle.ec_sessions.proofs.tokens.rows.first_conflict.Goals.{else-ne-via-then-ne+else-clash, else-ne-via-else-ne}

pub loop-session-preserved : goal.loop-session-preserved
loop-session-preserved c =
    let left = conflict_left c.items-session-items.result.now c.loop-session.session-index c.loop-session-item.result c.loop-session-test.true c.loop-session-item.is c.args.obj c.args.s c.args.hold in
    elim c.else-ne.branch [
      | else-ne-via-then-ne+else-clash w ↦ grind (arith, left, c.loop-session.invariant, w.if-ne.true, c.ne.ensures, w.mode.ensures, w.clash.ensures, w.if-clash.false)
      | else-ne-via-else-ne w ↦ grind (arith, left, c.loop-session.invariant, w.if-ne.false, c.ne.ensures)
    ]
