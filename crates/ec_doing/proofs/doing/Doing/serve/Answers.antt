use Rattle.std.proofs.Common.{sym, ◌∙◌}
use Rattle.ec_protocol.specs.Clerk as clerk
use Rattle.ec_doing.specs.Seen.{doing_of}
use Rattle.ec_doing.proofs.Steps.{when_true, then_goes}
use Rattle.ec_doing.proofs.doing.Doing.serve.Goals as goal

pub returns-in_ok-ask_pushes : goal.returns-in_ok-ask_pushes
returns-in_ok-ask_pushes c = λ ws.
    let d = doing_of ws c.args.self.now in
    when_true (clerk.has_session d.clerk) (clerk.ask_pushes (clerk.answer_recalls d)) d (doing_of ws c.ask_pushes.new.self) (sym c.has_session.ensures ∙ c.if-has_session.true)
    (then_goes clerk.ask_pushes (clerk.answer_recalls d) (doing_of ws c.answer_recalls.new.self) (doing_of ws c.ask_pushes.new.self) (c.in_ok-answer_recalls.ensures ws) (c.in_ok-ask_pushes.ensures ws))
