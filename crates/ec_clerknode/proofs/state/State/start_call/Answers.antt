use Rattle.std.proofs.Common.{◌+◌, refl}
use Rattle.ec_clerknode.proofs.Nodes.{begun_same, answer_then}
use Rattle.ec_clerknode.proofs.state.State.start_call.Goals as goal

pub returns-clause-keeps : goal.returns-clause-keeps
returns-clause-keeps g c = (λ first s. c.take_answer-answer.ensures.keeps first (c.begin.ensures.keeps first s))

pub returns-clause-started : goal.returns-clause-started
returns-clause-started g c = (begun_same c.args.pass c.args.call c.args.self.now c.begin.new.self c.take_answer-answer.new.self c.in_ok-number.number c.take_answer-answer.ensures.same.0 c.take_answer-answer.ensures.same.1 c.in_ok-number.ensures.begun, refl, answer_then (λ l. g.L.Link.faults l + g.L.Link.closes l) g.L.Link.given g.L.Link.got c.args.self.now c.begin.new.self c.take_answer-answer.new.self c.in_ok-number.number c.args.self.now.steps c.take_answer-answer.result c.begin.ensures.keeps c.take_answer-answer.ensures.same.0 c.take_answer-answer.ensures.answer)
