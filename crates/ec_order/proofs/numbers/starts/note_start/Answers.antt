use Rattle.std.proofs.Common.{◌∙◌, ap, Some, cond}
use Rattle.ec_order.specs.OfNumbers.Starts.{indexed}
use Rattle.ec_order.proofs.OfNumbers.Pairs.{at-start}
use Rattle.ec_order.proofs.numbers.starts.note_start.Goals as goal

pub returns-in-Ok-clause-ok : goal.returns-in-Ok-clause-ok
returns-in-Ok-clause-ok c d e = c.in-Ok.ensures.updates.0 (d, e) ∙ ap (λ b. cond b (Some c.args.at) (indexed c.args.index.now d e)) (at-start c.args.clerk c.args.boot d e)
