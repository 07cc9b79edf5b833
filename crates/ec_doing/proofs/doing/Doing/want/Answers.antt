use Rattle.std.proofs.Common.{sym, ◌∙◌}
use Rattle.ec_doing.proofs.Steps.{want_goes}
use Rattle.ec_doing.proofs.doing.Doing.want.Goals as goal

pub returns-in_ok-send_want : goal.returns-in_ok-send_want
returns-in_ok-send_want c = λ ws. want_goes ws c.args.self.now c.args.obj c.args.hold _ (sym c.may_want.ensures ∙ c.if-may_want.true) (rw c.wanted.ensures at (sym c.was_sent.ensures ∙ c.if-not-was_sent.true)) (c.in_ok-send_want.ensures ws)
