use Rattle.ec_quiet.proofs.OfDeliveries.Staying.{old-tokens-leave}
use Rattle.ec_quiet.proofs.deliveries.leaving.old_tokens_leave.Goals as goal

pub returns : goal.returns
returns c = old-tokens-leave
