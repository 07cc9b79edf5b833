use Rattle.std.proofs.Common.{◌∙◌}
use Rattle.ec_outs.proofs.Told.{cut_off, added-nil}
use Rattle.ec_outs.proofs.sending.send_resting.Goals as goal

pub returns-in-Failed-clause-sent : goal.returns-in-Failed-clause-sent
returns-in-Failed-clause-sent g c = c.in-Failed.ensures.sent ∙ (added-nil _ ∙ cut_off _ _ c.args.outs.now c.loop-out.out-index c.loop-out.sent c.loop-out.invariant.0 c.loop-out.invariant.2)

pub returns-in-NoMemory-clause-sent : goal.returns-in-NoMemory-clause-sent
returns-in-NoMemory-clause-sent g c = c.in-NoMemory.ensures.sent ∙ (added-nil _ ∙ cut_off _ _ c.args.outs.now c.loop-out.out-index c.loop-out.sent c.loop-out.invariant.0 c.loop-out.invariant.2)
