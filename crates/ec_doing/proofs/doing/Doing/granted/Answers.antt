use Rattle.std.proofs.Common.{ap, sym, ◌∙◌}
use Rattle.ec_doing.specs.Seen.{doing_of, take_grant}
use Rattle.ec_doing.proofs.Steps.{in_its_session}
use Rattle.ec_doing.proofs.doing.Doing.granted.Goals as goal

pub returns-in_ok-take_grant : goal.returns-in_ok-take_grant
returns-in_ok-take_grant c = λ ws.
    let before = doing_of ws c.args.self.now in
    in_its_session c.args.session c.args.epoch (take_grant c.args.obj c.args.number c.args.hold c.args.image) before (doing_of ws c.take_grant.new.self) (sym c.is_current.ensures ∙ c.if-is_current.true)
    (ap (λ i. take_grant c.args.obj c.args.number c.args.hold i before) (sym c.in_ok-into_image.ensures) ∙ c.in_ok-take_grant.ensures ws)
