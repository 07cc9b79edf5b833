use Rattle.std.proofs.Common.{sym, ◌∙◌}
use Rattle.ec_wire.specs.declared.msg.Msg.TheVariants.{Bye}
use Rattle.ec_protocol.specs.Clerk as clerk
use Rattle.ec_doing.specs.Seen.{doing_of}
use Rattle.ec_doing.proofs.Steps.{when_true}
use Rattle.ec_doing.proofs.doing.Doing.part.Goals as goal

pub returns-in_ok-send : goal.returns-in_ok-send
returns-in_ok-send c = λ ws.
    let d = doing_of ws c.args.self.now in
    when_true (clerk.has_session d.clerk) (clerk.send (Bye (clerk.session d) (clerk.epoch d)) d) d (doing_of ws c.send.new.self) (sym c.has_session.ensures ∙ c.if-has_session.true) (rw c.session.ensures at (c.in_ok-send.ensures ws))
