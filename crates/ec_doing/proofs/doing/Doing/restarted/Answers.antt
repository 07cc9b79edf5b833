use Rattle.std.proofs.Common.{sym, ◌∙◌}
use Rattle.ec_protocol.specs.Clerk as clerk
use Rattle.ec_doing.specs.Seen.{doing_of}
use Rattle.ec_doing.proofs.Steps.{on_ok, greets, goes_on}
use Rattle.ec_doing.proofs.doing.Doing.restarted.Goals as goal

pub returns-then-not-has_session : goal.returns-then-not-has_session
returns-then-not-has_session c =
    let ws = c.args.waiting.now in
    on_ok c.hello.result (λ p. greets c.args.session (clerk.take_restarted c.args.epoch) (doing_of ws c.args.self.now) (doing_of ws c.hello.new.self) (sym c.has_session.ensures ∙ c.if-not-has_session.true) (p ws)) c.hello.ensures

pub returns-in_ok-take_restarted : goal.returns-in_ok-take_restarted
returns-in_ok-take_restarted c =
    let ws = c.args.waiting.now in
    goes_on c.args.session (clerk.take_restarted c.args.epoch) (doing_of ws c.args.self.now) (doing_of ws c.take_restarted.new.self) (sym c.has_session.ensures ∙ c.if-not-has_session.false) (sym c.is_in.ensures ∙ c.if-is_in.true) c.in_ok-take_restarted.ensures
