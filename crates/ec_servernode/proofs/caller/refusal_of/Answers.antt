use Rattle.std.proofs.Common.{sym}
use Rattle.ec_servernode.proofs.Boxes.{no_refusal}
use Rattle.ec_servernode.proofs.caller.refusal_of.Goals as goal

pub returns-in_default : goal.returns-in_default
returns-in_default c = sym (no_refusal c.args.msg.now c.in_default.not-OldBoot)
