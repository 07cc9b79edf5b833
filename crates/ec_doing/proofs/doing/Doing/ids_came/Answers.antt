use Rattle.std.proofs.Common.{sym, ◌∙◌}
use Rattle.ec_protocol.specs.Clerk as clerk
use Rattle.ec_doing.specs.Seen.{doing_of}
use Rattle.ec_doing.proofs.Steps.{in_its_session}
use Rattle.ec_doing.proofs.doing.Doing.ids_came.Goals as goal

pub returns-in_ok-take_ids : goal.returns-in_ok-take_ids
returns-in_ok-take_ids c = λ ws. in_its_session c.args.session c.args.epoch (clerk.take_ids c.args.got c.args.number c.args.first) (doing_of ws c.args.self.now) (doing_of ws c.take_ids.new.self) (sym c.is_current.ensures ∙ c.if-is_current.true) (c.in_ok-take_ids.ensures ws)
