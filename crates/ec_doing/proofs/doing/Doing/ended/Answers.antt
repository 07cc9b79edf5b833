use Rattle.std.proofs.Common.{sym, ◌∙◌}
use Rattle.ec_protocol.specs.Clerk as clerk
use Rattle.ec_doing.specs.Seen.{doing_of}
use Rattle.ec_doing.proofs.Steps.{on_ok, greets, goes_on}
use Rattle.ec_doing.proofs.doing.Doing.ended.Goals as goal

pub returns-then-not-has_session : goal.returns-then-not-has_session
returns-then-not-has_session c = on_ok c.hello.result (λ p ws. greets c.args.session (clerk.take_ended c.args.window.now) (doing_of ws c.args.self.now) (doing_of ws c.hello.new.self) (sym c.has_session.ensures ∙ c.if-not-has_session.true) (p ws)) c.hello.ensures

pub returns-in_ok-take_ended : goal.returns-in_ok-take_ended
returns-in_ok-take_ended c = λ ws. goes_on c.args.session (clerk.take_ended c.args.window.now) (doing_of ws c.args.self.now) (doing_of ws c.take_ended.new.self) (sym c.has_session.ensures ∙ c.if-not-has_session.false) (sym c.is_in.ensures ∙ c.if-is_in.true) (c.in_ok-take_ended.ensures ws)
