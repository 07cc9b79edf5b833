use Rattle.std.proofs.Common.{◌∙◌}
use Rattle.ec_world.proofs.Leased.{session_is}
use Rattle.ec_world.specs.Worlds.{view_of}
use Rattle.ec_world.proofs.world.World.session.Goals as goal

pub returns : goal.returns
returns c = c.session.ensures ∙ session_is c.args.clerk (view_of c.args.self.now)
