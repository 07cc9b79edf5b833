use Rattle.std.proofs.Common.{◌≡◌, List, drop}
use Rattle.ec_protocol.specs.declared.clerk.Waiting.{Waiting}
use Rattle.ec_protocol.specs.Clerk as clerk
use Rattle.ec_doing.specs.Seen.{doing_of}
use Rattle.ec_doing.proofs.doing.Doing.resend_batches.Given as goal

abbrev pub invariant-batches : goal.invariant-batches
invariant-batches l = (ws : List Waiting) → clerk.resend_batches (drop l.batch-index l.batches) (doing_of ws l.self) ≡ clerk.resend_batches l.batches (doing_of ws l.fn.self)
