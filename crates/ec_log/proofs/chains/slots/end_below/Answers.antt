use Rattle.std.proofs.Common.{arith}
use Rattle.ec_log.proofs.OfChains.Live.{ends-below, ends-next}
use Rattle.ec_log.proofs.chains.slots.end_below.Goals as goal

pub returns-then-last-op-clause-below : goal.returns-then-last-op-clause-below
returns-then-last-op-clause-below c =
    let below = c.if-last-op.true in
    let last = c.last.view_is in
    let op = c.op.view_is in
    ends-below c.args.held.now c.args.op c.each.end c.each-test.true c.each.invariant.0 c.index-held-end.result c.index-held-end.is c.requires.sorted (omega (arith, below, last, op))

pub each-preserved : goal.each-preserved
each-preserved c =
    let above = c.if-last-op.false in
    let last = c.last.view_is in
    let op = c.op.view_is in
    ends-next c.args.held.now c.args.op c.each.end c.each-test.true c.each.invariant.0 c.index-held-end.result c.index-held-end.is c.requires.behind (omega (arith, above, last, op)) c.each.invariant.1
