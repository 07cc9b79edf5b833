use Rattle.std.proofs.Common.{sym, ◌∙◌}
use Rattle.ec_protocol.specs.Clerk as clerk
use Rattle.ec_doing.specs.Seen.{doing_of}
use Rattle.ec_doing.proofs.Steps.{on_ok, when_true, when_false, then_goes}
use Rattle.ec_doing.proofs.doing.Doing.claim_all.Goals as goal

pub returns-then-not-has_session : goal.returns-then-not-has_session
returns-then-not-has_session c =
    let ws = c.args.waiting.now in
    let d = doing_of ws c.args.self.now in
    on_ok c.hello.result (λ p. when_false (clerk.has_session d.clerk) (clerk.send_outstanding (clerk.claim d)) (clerk.hello d) (doing_of ws c.hello.new.self) (sym c.has_session.ensures ∙ c.if-not-has_session.true) (p ws)) c.hello.ensures

pub returns : goal.returns
returns c =
    let ws = c.args.waiting.now in
    let d = doing_of ws c.args.self.now in
    on_ok c.send_outstanding.result (λ p. when_true (clerk.has_session d.clerk) (clerk.send_outstanding (clerk.claim d)) (clerk.hello d) (doing_of ws c.send_outstanding.new.self) (sym c.has_session.ensures ∙ c.if-not-has_session.false)
    (then_goes clerk.send_outstanding (clerk.claim d) (doing_of ws c.claim.new.self) (doing_of ws c.send_outstanding.new.self) (c.in_ok-claim.ensures ws) p)) c.send_outstanding.ensures
