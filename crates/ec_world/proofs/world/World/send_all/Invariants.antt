use Rattle.std.proofs.Common.{◌≡◌, vec_len}
use Rattle.std.specs.Prelude.{reverse}
use Rattle.ec_protocol.specs.World as machine
use Rattle.ec_world.specs.StepEnds.{under}
use Rattle.ec_world.specs.Worlds.{KeepsServer}
use Rattle.ec_world.proofs.world.World.send_all.Given as goal

abbrev pub invariant-sent : goal.invariant-sent
invariant-sent l =
    (machine.with_world (machine.send_all (reverse l.sent.items)) (under l.self) ≡ machine.with_world (machine.send_all l.fn.sent.items) (under l.fn.self))
    × KeepsServer l.fn.self l.self

abbrev pub decreases-sent : goal.decreases-sent
decreases-sent l = vec_len l.sent
