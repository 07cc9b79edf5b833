use Rattle.std.proofs.Common.{◌≡◌, ◌<◌, take, length}
use Rattle.ec_protocol.specs.World.{boots_from}
use Rattle.ec_world.proofs.opening.boots_of.Given as goal

abbrev pub invariant-clerks : goal.invariant-clerks
invariant-clerks l = (l.boots ≡ boots_from 0 (take l.number l.state.sessions)) × (0 < l.number → length l.state.sessions ≡ 16)
