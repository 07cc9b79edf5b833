use Rattle.ec_legal.proofs.Late.{begun-owns}
use Rattle.ec_legal.proofs.placing.push_own.Goals as goal

pub push_call-requires-clause-begun : goal.push_call-requires-clause-begun
push_call-requires-clause-begun c = begun-owns c.args.clerk c.args.boot c.args.line.now.begun c.args.line.now.above.now c.args.line.now.shown.now c.is_call_of.result c.is_call_of.ensures c.if-is_call_of.true c.requires.held c.requires.begun
