use Rattle.std.proofs.Common.{◌≡◌, vec_len}
use Rattle.std.specs.Prelude.{reverse}
use Rattle.ec_protocol.specs.World as machine
use Rattle.ec_world.specs.StepEnds.{under}
use Rattle.ec_world.specs.Worlds.{KeepsServer}
use Rattle.ec_world.proofs.world.World.come_out.Given as goal

abbrev pub invariant-outs : goal.invariant-outs
invariant-outs l =
    (machine.come_out l.clerk (reverse l.outs.items) (under l.self) ≡ machine.come_out l.clerk l.fn.outs.items (under l.fn.self)) × KeepsServer l.fn.self l.self

abbrev pub decreases-outs : goal.decreases-outs
decreases-outs l = vec_len l.outs
