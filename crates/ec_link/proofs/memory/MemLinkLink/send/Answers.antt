use Rattle.std.proofs.Common.{◌++◌, Some, drop, ap, ◌∙◌}
use Rattle.ec_link.specs.LinkAnswers.{carried}
use Rattle.ec_link.specs.HappeningBodies.{got_in}
use Rattle.ec_link.proofs.Framed.{body_of_frame}
use Rattle.ec_link.proofs.memory.MemLinkLink.send.Goals as goal

pub returns-in-Ok-clause-got : goal.returns-in-Ok-clause-got
returns-in-Ok-clause-got g c =
    let before = ap (λ link. got_in link.happened) c.fails_now.ensures.others in
    ap Some (c.carry.ensures.happened.got ∙ (ap (λ l. l ++ carried c.carry.result (drop 4 c.in-Ok.bytes.items)) before ∙ ap (λ l. got_in c.args.self.now.happened ++ l) (body_of_frame c.carry.result c.args.body.now c.in-Ok.bytes.items c.in-Ok.ensures.ok.0)))
