use Rattle.ec_order.proofs.OfNumbers.Indexes.{known-more}
use Rattle.ec_order.proofs.numbers.numbers.note.Goals as goal

pub returns-in-Ok-clause-ok : goal.returns-in-Ok-clause-ok
returns-in-Ok-clause-ok c n = known-more c.args.op n _ _ (c.in-Ok.ensures.updates.0 n)
