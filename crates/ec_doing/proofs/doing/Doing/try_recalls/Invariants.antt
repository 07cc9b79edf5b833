use Rattle.std.proofs.Common.{◌≡◌, List, drop}
use Rattle.ec_protocol.specs.declared.clerk.Waiting.{Waiting}
use Rattle.ec_protocol.specs.Clerk as clerk
use Rattle.ec_doing.specs.Seen.{doing_of}
use Rattle.ec_doing.proofs.doing.Doing.try_recalls.Given as goal

abbrev pub invariant-recalls : goal.invariant-recalls
invariant-recalls l = (ws : List Waiting) → clerk.try_recalls (drop l.recalled-index l.recalls) (doing_of ws l.self) ≡ clerk.try_recalls l.recalls (doing_of ws l.fn.self)
