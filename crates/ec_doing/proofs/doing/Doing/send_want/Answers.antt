use Rattle.std.proofs.Common.{refl}
use Rattle.ec_doing.proofs.Steps.{on_ok, want_sent}
use Rattle.ec_doing.proofs.doing.Doing.send_want.Goals as goal

pub returns : goal.returns
returns c = on_ok c.send.result (λ p ws. want_sent ws c.args.self.now c.session.result c.wanted-wanted.result.last c.args.obj c.args.hold c.wanted-wanted.result c.push.new.self.items _ c.session.ensures c.wanted-wanted.ensures refl c.in_ok-push.ensures.items (p ws)) c.send.ensures
