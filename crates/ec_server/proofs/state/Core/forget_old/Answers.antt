use Rattle.std.proofs.Common.{ap, sym, ◌∙◌}
use Rattle.ec_protocol.specs.Server as machine
use Rattle.ec_server.specs.Steps.{under}
use Rattle.ec_server.proofs.state.Core.forget_old.Goals as goal

pub returns-in-Some-clause-does : goal.returns-in-Some-clause-does
returns-in-Some-clause-does c = λ d. c.forget.ensures.does d ∙ ap (λ o. machine.with_server (machine.forget_old o) (under d c.args.self.now)) (sym c.in-Some.is)
