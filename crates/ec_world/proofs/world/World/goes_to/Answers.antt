use Rattle.std.proofs.Common.{sym}
use Rattle.ec_world.specs.Worlds.{view_of}
use Rattle.ec_world.proofs.world.World.goes_to.Goals as goal

pub returns : goal.returns
returns c = sym (c.goes_to.ensures (view_of c.args.self.now))
