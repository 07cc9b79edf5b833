use Rattle.std.proofs.Common.{rules}
use Rattle.ec_log.specs.declared.state.Asked.TheVariants.{All}
use Rattle.ec_lock.specs.PassViews.{first, front}
use Rattle.ec_mounts.proofs.Turning.{none_begun, took_none, took_more}
use Rattle.ec_mounts.proofs.beside.take_turns.Goals as goal

pub loop-init : goal.loop-init
loop-init g c = (search rules, search rules, took_none c.args.clerk.now.lock c.args.pass.now c.requires)

pub loop-preserved-in-Ok-Sent : goal.loop-preserved-in-Ok-Sent
loop-preserved-in-Ok-Sent g c =
    let t = c.flush_turn.ensures in (
      search rules,
      search rules,
      took_more c.args.clerk.now.lock c.args.pass.now c.loop.pass c.flush_turn.new.pass c.loop.invariant.2 t.turned (none_begun (first c.args.clerk.now.lock).clerk c.loop.pass.number All (front c.loop.pass) (front c.flush_turn.new.pass) c.flush_turn.result t.flushed),
    )

pub loop-preserved : goal.loop-preserved
loop-preserved g c =
    let t = c.flush_turn.ensures in (
      search rules,
      search rules,
      took_more c.args.clerk.now.lock c.args.pass.now c.loop.pass c.flush_turn.new.pass c.loop.invariant.2 t.turned (none_begun (first c.args.clerk.now.lock).clerk c.loop.pass.number All (front c.loop.pass) (front c.flush_turn.new.pass) c.flush_turn.result t.flushed),
    )

pub returns-in-Err : goal.returns-in-Err
returns-in-Err g c =
    let t = c.flush_turn.ensures in
    took_more c.args.clerk.now.lock c.args.pass.now c.loop.pass c.flush_turn.new.pass c.loop.invariant.2 t.turned (none_begun (first c.args.clerk.now.lock).clerk c.loop.pass.number All (front c.loop.pass) (front c.flush_turn.new.pass) c.flush_turn.result t.flushed)
