use Rattle.std.proofs.Common.{◌+◌}
use Rattle.ec_clerknode.specs.Node.{AnsweredAt}
use Rattle.ec_clerknode.proofs.Nodes.{kept_of, answer_kept}
use Rattle.ec_clerknode.proofs.state.State.take_answer.Goals as goal

pub returns-clause-keeps : goal.returns-clause-keeps
returns-clause-keeps g c first s = record {
  run = s.run;
  counted = s.counted;
  leads_to = s.leads_to;
  kept = kept_of (λ l. g.L.Link.faults l + g.L.Link.closes l) g.L.Link.given g.L.Link.got (λ a. AnsweredAt c.args.self.now.trace.items a.at a.number a.reply) c.take_kept-answer.result _ _ c.args.number c.args.place c.take_kept-answer.ensures.some c.take_kept-answer.ensures.none s.kept;
  told = s.told;
  old = s.old;
  top = s.top;
  net = s.net;
  heard = s.heard;
  sent = s.sent;
  said = s.said;
  wanted = s.wanted;
  came = s.came;
  linker = s.linker;
  links = s.links;
}

pub returns-clause-answer : goal.returns-clause-answer
returns-clause-answer g c first s = answer_kept (λ l. g.L.Link.faults l + g.L.Link.closes l) g.L.Link.given g.L.Link.got c.args.self.now.trace.items c.take_kept-answer.result _ _ c.args.number c.args.place c.take_kept-answer.ensures.some s.kept
