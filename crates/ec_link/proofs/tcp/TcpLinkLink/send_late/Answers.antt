use Rattle.std.proofs.Common.{◌++◌, Some, ap, ◌∙◌}
use Rattle.ec_link.specs.HappeningBodies.{got_in}
use Rattle.ec_link.proofs.Framed.{body_of_frame}
use Rattle.ec_link.proofs.tcp.TcpLinkLink.send_late.Goals as goal

pub returns-in-Ok-clause-got : goal.returns-in-Ok-clause-got
returns-in-Ok-clause-got g c = ap Some (c.let_rest.ensures.happened.got ∙ ap (λ l. got_in c.args.self.now.happened ++ l) (body_of_frame c.let_rest.result c.args.body.now c.in-Ok.bytes.items c.in-Ok.ensures.ok.0))
