use Rattle.std.proofs.Common.{◌∙◌}
use Rattle.ec_servernode.proofs.Callers.{refusal_first, refusal_none}
use Rattle.ec_servernode.proofs.caller.refusal_in.Goals as goal

pub returns-in-Some : goal.returns-in-Some
returns-in-Some c = c.refusal_of.ensures ∙ refusal_first c.args.sent.now c.in-Some.one.now c.in-Some.ensures.item.3.0 c.in-Some.ensures.item.1

pub returns-in-None : goal.returns-in-None
returns-in-None c = refusal_none c.args.sent.now c.in-None.ensures.item.3
