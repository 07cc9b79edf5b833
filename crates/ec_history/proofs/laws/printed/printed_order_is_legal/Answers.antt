use Rattle.ec_history.proofs.OfLaws.OfPrinted.Lines.{timely-legal}
use Rattle.ec_history.proofs.laws.printed.printed_order_is_legal.Goals as goal

pub returns : goal.returns
returns c = timely-legal
