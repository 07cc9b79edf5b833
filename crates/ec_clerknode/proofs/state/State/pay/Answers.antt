use Rattle.std.proofs.Common.{◌+◌, ap, ◌∙◌}
use Rattle.ec_clerknode.proofs.Nodes.{keeps_owing, works_none}
use Rattle.ec_clerknode.proofs.Turns.{resent_works}
use Rattle.ec_clerknode.proofs.state.State.pay.Goals as goal

pub returns-then-not-is_due-clause-keeps : goal.returns-then-not-is_due-clause-keeps
returns-then-not-is_due-clause-keeps g c = keeps_owing (λ l. g.L.Link.faults l + g.L.Link.closes l) g.L.Link.given g.L.Link.got c.args.self.now c.is_due.new.self c.is_due.new.self.owes c.is_due.ensures

pub returns-then-not-is_due-clause-works : goal.returns-then-not-is_due-clause-works
returns-then-not-is_due-clause-works g c = works_none c.args.pass c.args.self.now c.is_due.new.self (tt {0}) (ap (λ n. n.trace.items) c.is_due.ensures) (ap (λ n. n.boot) c.is_due.ensures ∙ c.in_ok-check.ensures.ok.2)

pub returns-clause-keeps : goal.returns-clause-keeps
returns-clause-keeps g c = (λ first s. c.resend.ensures.keeps first (keeps_owing (λ l. g.L.Link.faults l + g.L.Link.closes l) g.L.Link.given g.L.Link.got c.args.self.now c.is_due.new.self c.is_due.new.self.owes c.is_due.ensures first s))

pub returns-clause-works : goal.returns-clause-works
returns-clause-works g c = resent_works c.args.pass c.args.self.now c.is_due.new.self c.resend.new.self c.resend.result (ap (λ n. n.trace.items) c.is_due.ensures) c.resend.ensures.resends
