use Rattle.ec_world.specs.Worlds.{view_of}
use Rattle.ec_world.proofs.Standing.{stopped_is}
use Rattle.ec_world.proofs.world.World.server_is_stopped.Goals as goal

pub returns : goal.returns
returns c = stopped_is (view_of c.args.self.now).durable c.args.self.now.server c.is_none.result c.is_none.ensures
