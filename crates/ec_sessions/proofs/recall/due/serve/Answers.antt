use Rattle.ec_sessions.proofs.OfRecall.KeyLemmas.{free_none, not_free}
use Rattle.ec_sessions.proofs.recall.due.serve.Goals as goal

pub take-requires : goal.take-requires
take-requires c = not_free c.want-item.result.hold (free_none c.args.wants.now c.loop-want.want-index c.want-item.result c.requires c.loop-want-test.true c.want-item.is)
