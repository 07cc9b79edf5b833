use Rattle.std.proofs.Common.{sym}
use Rattle.ec_servernode.proofs.Boxes.{no_hello}
use Rattle.ec_servernode.proofs.caller.hello_in.Goals as goal

pub returns-in_default : goal.returns-in_default
returns-in_default c = sym (no_hello c.args.msg.now c.in_default.not-Hello)
