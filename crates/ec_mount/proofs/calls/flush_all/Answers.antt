use Rattle.std.proofs.Common.{rules}
use Rattle.ec_mount.proofs.Passing.{flushed_none, flushed_more, flushed_fails}
use Rattle.ec_mount.proofs.calls.flush_all.Goals as goal

pub loop-init : goal.loop-init
loop-init g c = (search rules, search rules, flushed_none c.args.clerk.now.lock c.args.pass c.requires)

pub loop-preserved-in-Ok-Sent : goal.loop-preserved-in-Ok-Sent
loop-preserved-in-Ok-Sent g c = (search rules, search rules, flushed_more c.args.clerk.now.lock c.args.pass c.loop.own c.flush_turn.new.pass c.loop.invariant.2 c.flush_turn.ensures.turned)

pub loop-preserved : goal.loop-preserved
loop-preserved g c = (search rules, search rules, flushed_more c.args.clerk.now.lock c.args.pass c.loop.own c.flush_turn.new.pass c.loop.invariant.2 c.flush_turn.ensures.turned)

pub returns-in-Err : goal.returns-in-Err
returns-in-Err g c = flushed_fails c.args.clerk.now.lock c.args.pass c.loop.own c.flush_turn.new.pass c.loop.invariant.2 c.flush_turn.ensures.turned c.loop.own.number c.in-Err.fault c.in-Err.ensures.flushed
