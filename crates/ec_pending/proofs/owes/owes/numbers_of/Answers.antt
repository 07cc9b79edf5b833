use Rattle.ec_pending.proofs.OfOwes.Due.{numbers-more}
use Rattle.ec_pending.proofs.owes.owes.numbers_of.Goals as goal

pub loop-pair-preserved : goal.loop-pair-preserved
loop-pair-preserved c = numbers-more c.args.pairs.now c.loop-pair.pair-index c.pair-item.result c.loop-pair.ops c.push_new.new.self c.loop-pair-test.true c.pair-item.is c.loop-pair.invariant c.in_ok-push_new.ensures
