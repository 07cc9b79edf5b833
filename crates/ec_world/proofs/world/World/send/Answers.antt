use Rattle.std.proofs.Common.{◌≡◌, None, sym, ap}
use Rattle.ec_protocol.specs.declared.world.World.{World as State}
use Rattle.ec_protocol.specs.World.{Moving}
use Rattle.ec_world.specs.Worlds.{view_of}
use Rattle.ec_world.proofs.world.World.send.Goals as goal

pub returns-clause-ok : goal.returns-clause-ok
returns-clause-ok c =
    let on : State → Moving = λ w. record { world = w; shown = c.args.self.now.piece.items; fault = None } in
    ap on (sym (c.in_ok-send.ensures.ok (view_of c.args.self.now)))
