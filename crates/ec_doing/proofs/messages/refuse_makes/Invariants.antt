use Rattle.std.proofs.Common.{◌≡◌}
use Rattle.ec_protocol.specs.Clerk as clerk
use Rattle.ec_doing.specs.Seen.{doing_of}
use Rattle.ec_doing.proofs.messages.refuse_makes.Given as goal

abbrev pub invariant-calls : goal.invariant-calls
invariant-calls l = clerk.refuse_makes l.live l.reserved l.call-iterator.rest.items (doing_of l.waiting.items l.doing) ≡ clerk.refuse_makes l.live l.reserved l.fn.calls.items (doing_of l.fn.waiting.items l.fn.doing)
