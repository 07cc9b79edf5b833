use Rattle.std.proofs.Common.{◌+◌, false, rules}
use Rattle.ec_clerknode.proofs.Turns.{fails_both, works_both}
use Rattle.ec_clerknode.proofs.state.State.read_or_resend.Goals as goal

pub returns-in_err-resend_if_long-clause-keeps : goal.returns-in_err-resend_if_long-clause-keeps
returns-in_err-resend_if_long-clause-keeps g c = (λ first s. c.resend_if_long.ensures.keeps first (c.read.ensures.keeps first s))

pub returns-in_err-resend_if_long-clause-works : goal.returns-in_err-resend_if_long-clause-works
returns-in_err-resend_if_long-clause-works g c =
    let w = c.in_ok-heard.ensures.works in
    let b = fails_both c.args.pass c.args.self.now c.read.new.self c.resend_if_long.new.self c.in_err-resend_if_long.field-0.0 w.1.0 w.1.1 w.1.2 c.in_err-resend_if_long.ensures.works in
    search (rules, b)

pub returns-clause-keeps : goal.returns-clause-keeps
returns-clause-keeps g c = (λ first s. c.resend_if_long.ensures.keeps first (c.read.ensures.keeps first s))

pub returns-clause-works : goal.returns-clause-works
returns-clause-works g c = works_both c.args.pass c.args.self.now c.read.new.self c.resend_if_long.new.self c.in_ok-heard.heard (tt {0}) false c.in_ok-heard.ensures.works c.in_ok-resend_if_long.ensures.works
