use Rattle.ec_world.specs.Worlds.{view_of}
use Rattle.ec_world.proofs.Reaching.{unsettled}
use Rattle.ec_world.proofs.world.World.show_unsettled.Goals as goal

pub returns-clause-reached : goal.returns-clause-reached
returns-clause-reached c = unsettled (view_of c.args.self.now) c.note.new.self c.in_ok-note.ensures
