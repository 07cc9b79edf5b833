use Rattle.std.proofs.Common.{sym}
use Rattle.ec_world.specs.Worlds.{view_of}
use Rattle.ec_world.proofs.world.World.find.Goals as goal

pub returns : goal.returns
returns c = sym (c.find.ensures.number (view_of c.args.self.now))
