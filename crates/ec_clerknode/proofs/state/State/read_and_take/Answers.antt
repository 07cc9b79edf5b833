use Rattle.std.proofs.Common.{ℕ, ◌+◌}
use Rattle.ec_clerknode.proofs.Nodes.{works_then, answer_then}
use Rattle.ec_clerknode.proofs.state.State.read_and_take.Goals as goal

pub returns-clause-keeps : goal.returns-clause-keeps
returns-clause-keeps g c = (λ first s. c.take_answer-answer.ensures.keeps first (c.read_or_resend.ensures.keeps first s))

pub returns-clause-works : goal.returns-clause-works
returns-clause-works g c = works_then {B = ℕ} c.args.pass c.args.self.now c.read_or_resend.new.self c.take_answer-answer.new.self c.in_ok-heard.heard 0 c.take_answer-answer.ensures.same.0 c.take_answer-answer.ensures.same.1 c.in_ok-heard.ensures.works

pub returns-clause-answered : goal.returns-clause-answered
returns-clause-answered g c = answer_then (λ l. g.L.Link.faults l + g.L.Link.closes l) g.L.Link.given g.L.Link.got c.args.self.now c.read_or_resend.new.self c.take_answer-answer.new.self c.args.number c.args.place c.take_answer-answer.result c.read_or_resend.ensures.keeps c.take_answer-answer.ensures.same.0 c.take_answer-answer.ensures.answer
