use Rattle.std.proofs.Common.{◌≡◌, ◌++◌, drop}
use Rattle.ec_protocol.specs.Clerk as clerk
use Rattle.ec_doing.specs.Seen.{clerk_with}
use Rattle.ec_doing.proofs.doing.Doing.needs.Given as goal

abbrev pub invariant-calls : goal.invariant-calls
invariant-calls l = l.needs.items ++ clerk.needs (drop l.call-index l.waiting) (clerk_with l.waiting l.self) ≡ clerk.needs l.waiting (clerk_with l.waiting l.self)
