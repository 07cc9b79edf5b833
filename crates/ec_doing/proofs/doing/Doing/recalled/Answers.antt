use Rattle.std.proofs.Common.{sym, ◌∙◌}
use Rattle.ec_protocol.specs.Clerk as clerk
use Rattle.ec_doing.specs.Seen.{doing_of}
use Rattle.ec_doing.proofs.Steps.{in_its_session}
use Rattle.ec_doing.proofs.doing.Doing.recalled.Goals as goal

pub returns-in_ok-take_recall : goal.returns-in_ok-take_recall
returns-in_ok-take_recall c = λ ws. in_its_session c.args.session c.args.epoch (clerk.take_recall c.args.obj c.args.number c.args.to) (doing_of ws c.args.self.now) (doing_of ws c.take_recall.new.self) (sym c.is_current.ensures ∙ c.if-is_current.true) (c.in_ok-take_recall.ensures ws)
