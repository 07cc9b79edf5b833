use Rattle.std.proofs.Common.{arith}
use Rattle.ec_watch.proofs.Watched.{few-at}
use Rattle.ec_lines.proofs.seen.start_of.Goals as goal

pub start-requires : goal.start-requires
start-requires c = omega (arith, c.requires.few, few-at c.args.watches.now c.args.above.now c.args.clerk c.watch_of.result.now c.requires.watched c.watch_of.ensures.below c.watch_of.ensures.value)
