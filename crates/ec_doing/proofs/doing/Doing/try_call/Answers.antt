use Rattle.std.proofs.Common.{sym, ap, ◌∙◌}
use Rattle.ec_protocol.specs.Clerk as clerk
use Rattle.ec_doing.specs.Seen.{doing_of}
use Rattle.ec_doing.proofs.Steps.{if_ok}
use Rattle.ec_doing.proofs.doing.Doing.try_call.Goals as goal

pub returns-in-Lost : goal.returns-in-Lost
returns-in-Lost c =
    let w = c.args.waiting.now in
    if_ok c.report.result (λ t p ws. ap (λ v. clerk.try_verdict w v (doing_of ws c.args.self.now)) (sym c.in_ok-obj.ensures ∙ c.in-Lost.is) ∙ p w.call w.begun ws) (rw c.as_slice.ensures at c.report.ensures)
