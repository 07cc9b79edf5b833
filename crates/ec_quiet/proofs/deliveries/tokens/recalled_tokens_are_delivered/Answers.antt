use Rattle.ec_quiet.proofs.OfDeliveries.Returning.{backs-come-back}
use Rattle.ec_quiet.proofs.deliveries.tokens.recalled_tokens_are_delivered.Goals as goal

pub returns : goal.returns
returns c = backs-come-back
