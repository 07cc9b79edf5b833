use Rattle.ec_quiet.proofs.Evicted.{all-old, old-ones}
use Rattle.ec_quiet.proofs.clerk_phases.old_tokens_go.Goals as goal

pub returns : goal.returns
returns c pinned k olds news whole enough = (old-ones pinned k olds news whole enough, all-old pinned k olds news whole enough)
