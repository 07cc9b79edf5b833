use Rattle.std.proofs.Common.{ap}
use Rattle.ec_protocol.specs.Clerk as clerk
use Rattle.ec_doing.proofs.doing.Doing.answer_with.Goals as goal

pub returns : goal.returns
returns c = λ call begun ws. ap clerk.Answered (rw c.use_all.ensures at (c.in_ok-emit.ensures ws))
