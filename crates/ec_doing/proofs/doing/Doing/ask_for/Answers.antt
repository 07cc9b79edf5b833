use Rattle.std.proofs.Common.{ap, Ok}
use Rattle.ec_doing.proofs.Steps.{on_ok, asked}
use Rattle.ec_doing.proofs.doing.Doing.ask_for.Goals as goal

pub returns : goal.returns
returns c = on_ok c.send_picked.result (λ p ws. asked ws c.args.self.now c.args.asked c.in-Ok.pick c.pick.new.self _ c.in-Ok.ensures.pick c.in-Ok.ensures.ok (λ b ns e. c.in-Ok.ensures.room b ns (ap Ok e)) (p ws)) c.send_picked.ensures
