use Rattle.std.proofs.Common.{sym, ◌∙◌}
use Rattle.std.specs.Prelude.{reverse}
use Rattle.ec_doing.proofs.Steps.{need_goes}
use Rattle.ec_doing.proofs.doing.Doing.resend_want.Goals as goal

pub returns-in_ok-send_want : goal.returns-in_ok-send_want
returns-in_ok-send_want c = λ ws. need_goes ws c.args.self.now c.args.obj c.args.hold (reverse c.args.sent.now) _ (sym c.may_want.ensures ∙ c.if-may_want.true) (sym c.is_among.ensures ∙ c.if-not-is_among.true) (c.in_ok-send_want.ensures ws)
