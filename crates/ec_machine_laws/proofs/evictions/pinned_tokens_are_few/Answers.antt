use Rattle.ec_machine_laws.proofs.Evicting.{pinned-few}
use Rattle.ec_machine_laws.proofs.evictions.pinned_tokens_are_few.Goals as goal

pub returns : goal.returns
returns c = pinned-few
