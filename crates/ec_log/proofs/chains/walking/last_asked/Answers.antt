use Rattle.ec_log.proofs.OfChains.Taken.{op-latest}
use Rattle.ec_log.specs.OfChains.Slots.{placed}
use Rattle.ec_log.proofs.chains.walking.last_asked.Goals as goal

pub returns-in-Op : goal.returns-in-Op
returns-in-Op c = op-latest c.args.ask.now c.in-Op.op (placed c.args.held.now) c.place_of.result c.requires.sorted c.in-Op.is c.place_of.ensures
