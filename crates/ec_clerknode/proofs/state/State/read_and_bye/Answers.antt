use Rattle.std.proofs.Common.{rules}
use Rattle.ec_clerknode.proofs.Turns.{fails_both}
use Rattle.ec_clerknode.proofs.state.State.read_and_bye.Goals as goal

pub returns-in_err-is_said-clause-keeps : goal.returns-in_err-is_said-clause-keeps
returns-in_err-is_said-clause-keeps g c = (λ first s. c.bye.ensures.keeps first (c.read_or_resend.ensures.keeps first s))

pub returns-in_err-is_said-clause-parts : goal.returns-in_err-is_said-clause-parts
returns-in_err-is_said-clause-parts g c =
    let w = c.in_ok-heard.ensures.works in
    let b = fails_both c.args.pass c.args.self.now c.read_or_resend.new.self c.bye.new.self c.in_err-is_said.field-0.0 w.1.0 w.1.1 w.1.2 c.in_err-is_said.ensures.parts in
    search (rules, b)

pub returns-clause-keeps : goal.returns-clause-keeps
returns-clause-keeps g c = (λ first s. c.bye.ensures.keeps first (c.read_or_resend.ensures.keeps first s))

pub returns-clause-parts : goal.returns-clause-parts
returns-clause-parts g c =
    let w = c.in_ok-heard.ensures.works in
    let p = c.in_ok-is_said.ensures.parts in
    (p.0, (c.read_or_resend.new.self, (w.1.0, w.1.1, w.1.2), p.1))
