use Rattle.std.proofs.Common.{arith}
use Rattle.ec_log.proofs.Members.{found_all}
use Rattle.ec_log.proofs.choice.those_in.Goals as goal

pub returns : goal.returns
returns c = found_all c.args.members.now c.args.undurable.now c.members.found.items c.members.op-index (omega (arith, c.members-test.false)) c.requires c.count.ensures.sorted c.members.invariant
