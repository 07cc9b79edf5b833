use Rattle.std.proofs.Common.{◌+◌, ap, ◌∙◌}
use Rattle.ec_clerknode.proofs.Nodes.{keeps_waiting, works_none}
use Rattle.ec_clerknode.proofs.Turns.{resent_works}
use Rattle.ec_clerknode.proofs.state.State.resend_if_long.Goals as goal

pub returns-then-not-is_long-clause-keeps : goal.returns-then-not-is_long-clause-keeps
returns-then-not-is_long-clause-keeps g c = keeps_waiting (λ l. g.L.Link.faults l + g.L.Link.closes l) g.L.Link.given g.L.Link.got c.args.self.now c.is_long.new.self c.is_long.new.self.waiting c.is_long.ensures

pub returns-then-not-is_long-clause-works : goal.returns-then-not-is_long-clause-works
returns-then-not-is_long-clause-works g c = works_none c.args.pass c.args.self.now c.is_long.new.self (tt {0}) (ap (λ n. n.trace.items) c.is_long.ensures) (ap (λ n. n.boot) c.is_long.ensures ∙ c.in_ok-check.ensures.ok.2)

pub returns-clause-keeps : goal.returns-clause-keeps
returns-clause-keeps g c = (λ first s. c.resend.ensures.keeps first (keeps_waiting (λ l. g.L.Link.faults l + g.L.Link.closes l) g.L.Link.given g.L.Link.got c.args.self.now c.is_long.new.self c.is_long.new.self.waiting c.is_long.ensures first s))

pub returns-clause-works : goal.returns-clause-works
returns-clause-works g c = resent_works c.args.pass c.args.self.now c.is_long.new.self c.resend.new.self c.resend.result (ap (λ n. n.trace.items) c.is_long.ensures) c.resend.ensures.resends
