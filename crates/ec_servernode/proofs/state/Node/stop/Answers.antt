use Rattle.ec_servernode.proofs.Ends.{stops}
use Rattle.ec_servernode.proofs.state.Node.stop.Goals as goal

pub returns-clause-stops : goal.returns-clause-stops
returns-clause-stops g c = stops c.args.pass c.args.deed c.args.halt c.args.self.now c.add.new.self c.is_spent.result c.add.ensures.list c.add.ensures.others c.is_spent.ensures
