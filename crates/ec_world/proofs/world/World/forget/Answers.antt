use Rattle.std.proofs.Common.{sym}
use Rattle.ec_world.specs.Worlds.{view_of}
use Rattle.ec_world.proofs.Reaching.{forgotten}
use Rattle.ec_world.proofs.world.World.forget.Goals as goal

pub returns-clause-value : goal.returns-clause-value
returns-clause-value c = sym (c.forget.ensures (view_of c.args.self.now))

pub returns-clause-reached : goal.returns-clause-reached
returns-clause-reached c = forgotten (view_of c.args.self.now) _ (returns-clause-value c)
