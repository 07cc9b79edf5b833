use Rattle.std.proofs.Common.{sym, ◌∙◌}
use Rattle.ec_world.specs.Worlds.{view_of}
use Rattle.ec_world.proofs.Standing.{runs_is}
use Rattle.ec_world.proofs.world.World.due_but.Goals as goal

pub returns : goal.returns
returns c =
    let w = view_of c.args.self.now in
    sym (c.due_but.ensures w (runs_is w.durable c.args.self.now.server ∙ sym c.is_some.ensures))
