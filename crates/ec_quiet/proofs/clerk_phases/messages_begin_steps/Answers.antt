use Rattle.ec_quiet.proofs.Begun.{grants, ids, keeps, recalls}
use Rattle.ec_quiet.proofs.clerk_phases.messages_begin_steps.Goals as goal

pub returns : goal.returns
returns c s e k of = (grants s e k of, recalls s e k of, keeps s e k of, ids s e k of)
