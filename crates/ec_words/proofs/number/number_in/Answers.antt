use Rattle.std.proofs.Common.{arith}
use Rattle.ec_words.proofs.Numbers.{not_below, not_above}
use Rattle.ec_words.proofs.number.number_in.Goals as goal
use Rattle.ec_words.proofs.number.number_in.Goals.{then-number-least-via-then-number-least, then-number-least-via-else-number-least+then-most-number}

pub returns-then-number-least : goal.returns-then-number-least
returns-then-number-least c = λ n is.
    elim c.then-number-least.branch [
      | then-number-least-via-then-number-least w ↦ not_below c.args.word.now c.args.least c.args.most c.in_ok-number.number n (omega (arith, c.ranges.most.fits)) c.in_ok-number.ensures is w.if-number-least.true
      | then-number-least-via-else-number-least+then-most-number w ↦ not_above c.args.word.now c.args.least c.args.most c.in_ok-number.number n (omega (arith, c.ranges.most.fits)) c.in_ok-number.ensures is w.if-most-number.true
    ]
