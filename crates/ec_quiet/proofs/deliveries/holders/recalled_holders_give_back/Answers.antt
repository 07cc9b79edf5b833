use Rattle.ec_quiet.proofs.OfDeliveries.Returned.{first-token, first-other, first-clashes, first-fits, first-leaves}
use Rattle.ec_quiet.proofs.deliveries.holders.recalled_holders_give_back.Goals as goal

pub returns-clause-token : goal.returns-clause-token
returns-clause-token c = first-token

pub returns-clause-other : goal.returns-clause-other
returns-clause-other c = first-other

pub returns-clause-clashes : goal.returns-clause-clashes
returns-clause-clashes c = first-clashes

pub returns-clause-fits : goal.returns-clause-fits
returns-clause-fits c = first-fits

pub returns-clause-left : goal.returns-clause-left
returns-clause-left c = first-leaves
