use Rattle.std.proofs.Common.{true, rules}
use Rattle.ec_clerknode.proofs.Turns.{fails_both, works_both}
use Rattle.ec_clerknode.proofs.state.State.read.Goals as goal

pub returns-in_err-pay-in-Some-clause-works : goal.returns-in_err-pay-in-Some-clause-works
returns-in_err-pay-in-Some-clause-works g c =
    let w = c.in_ok-greeted.ensures.works in
    let b = fails_both c.args.pass c.args.self.now c.hear_link.new.self c.pay.new.self c.in_err-pay-in-Some.field-0.0 w.1.0 w.1.1 w.1.2 c.in_err-pay-in-Some.ensures.works in
    search (rules, b)

pub returns-in_ok-pay-in-Some-clause-works : goal.returns-in_ok-pay-in-Some-clause-works
returns-in_ok-pay-in-Some-clause-works g c = works_both c.args.pass c.args.self.now c.hear_link.new.self c.pay.new.self c.in_ok-greeted.field-0 (tt {0}) true c.in_ok-greeted.ensures.works c.in_ok-pay-in-Some.ensures.works
