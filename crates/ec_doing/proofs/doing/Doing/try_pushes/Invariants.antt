use Rattle.std.proofs.Common.{◌≡◌, List, drop}
use Rattle.ec_protocol.specs.declared.clerk.Waiting.{Waiting}
use Rattle.ec_protocol.specs.Clerk as clerk
use Rattle.ec_doing.specs.Seen.{doing_of}
use Rattle.ec_doing.proofs.doing.Doing.try_pushes.Given as goal

abbrev pub invariant-pushes : goal.invariant-pushes
invariant-pushes l = (ws : List Waiting) → clerk.try_pushes (drop l.op-index l.pushes) (doing_of ws l.self) ≡ clerk.try_pushes l.pushes (doing_of ws l.fn.self)
