use Rattle.std.proofs.Common.{ℕ, ◌+◌, Some, ◌∙◌}
use Rattle.ec_clerknode.proofs.Nodes.{works_none, works_behind, answer_then, waited_behind}
use Rattle.ec_clerknode.proofs.state.State.wait_call.Goals as goal

pub returns-in-Some-clause-keeps : goal.returns-in-Some-clause-keeps
returns-in-Some-clause-keeps g c = c.take_answer.ensures.keeps

pub returns-in-Some-clause-works : goal.returns-in-Some-clause-works
returns-in-Some-clause-works g c = works_none {A = ℕ} c.args.pass c.args.self.now c.take_answer.new.self 0 c.take_answer.ensures.same.0 (c.take_answer.ensures.same.1 ∙ c.in_ok-check.ensures.ok.2)

pub returns-in-Some-clause-answered : goal.returns-in-Some-clause-answered
returns-in-Some-clause-answered g c = answer_then (λ l. g.L.Link.faults l + g.L.Link.closes l) g.L.Link.given g.L.Link.got c.args.self.now c.args.self.now c.take_answer.new.self c.args.number c.args.place (Some c.in-Some.reply) (λ first s. s) c.take_answer.ensures.same.0 c.in-Some.ensures.answer

pub returns-clause-keeps : goal.returns-clause-keeps
returns-clause-keeps g c = (λ first s. c.read_and_take.ensures.keeps first (c.take_answer.ensures.keeps first s))

pub returns-clause-works : goal.returns-clause-works
returns-clause-works g c = works_behind c.args.pass c.args.self.now c.take_answer.new.self c.read_and_take.new.self c.read_and_take.result c.take_answer.ensures.same.0 c.read_and_take.ensures.works

pub returns-clause-answered : goal.returns-clause-answered
returns-clause-answered g c = waited_behind (λ l. g.L.Link.faults l + g.L.Link.closes l) g.L.Link.given g.L.Link.got c.args.number c.args.place c.args.self.now c.take_answer.new.self c.read_and_take.new.self c.read_and_take.result c.take_answer.ensures.keeps c.read_and_take.ensures.answered
