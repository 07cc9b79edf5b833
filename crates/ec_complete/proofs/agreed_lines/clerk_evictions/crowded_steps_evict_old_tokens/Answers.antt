use Rattle.ec_complete.proofs.OfAgreedLines.Crowded.{crowded}
use Rattle.ec_complete.proofs.agreed_lines.clerk_evictions.crowded_steps_evict_old_tokens.Goals as goal

pub returns : goal.returns
returns c j w k a unowed r = crowded j w k a unowed r
