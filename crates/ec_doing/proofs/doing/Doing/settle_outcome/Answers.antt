use Rattle.std.proofs.Common.{sym, ap, ◌∙◌}
use Rattle.ec_protocol.specs.Clerk as clerk
use Rattle.ec_doing.specs.Seen.{doing_of}
use Rattle.ec_doing.proofs.Steps.{if_ok}
use Rattle.ec_doing.proofs.doing.Doing.settle_outcome.Goals as goal

pub returns-in-Some : goal.returns-in-Some
returns-in-Some c =
    let w = c.args.waiting.now in
    let o = c.args.outcome in
    if_ok c.issue_if_room.result (λ t p ws. ap (λ v. clerk.settle_outcome w o v (doing_of ws c.args.self.now)) c.in-Some.is ∙ p w.call w.begun o.update ws) c.issue_if_room.ensures

pub returns-in-None : goal.returns-in-None
returns-in-None c =
    let w = c.args.waiting.now in
    let o = c.args.outcome in
    if_ok c.settle_reply.result (λ t p ws.
    ap (λ v. clerk.settle_outcome w o v (doing_of ws c.args.self.now)) c.in-None.is
    ∙ ap (λ a. clerk.await w o a (doing_of ws c.args.self.now)) (sym c.awaited-asked.ensures)
    ∙ p w.call o.update ws) c.settle_reply.ensures
