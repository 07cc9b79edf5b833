use Rattle.std.proofs.Common.{sym, ◌∙◌}
use Rattle.ec_server.specs.CallLaws.{taken_part}
use Rattle.ec_server.specs.Steps.{under, does}
use Rattle.ec_server.proofs.state.Core.taken.Goals as goal

pub returns-in_ok-tell-in-Answered-clause-ok : goal.returns-in_ok-tell-in-Answered-clause-ok
returns-in_ok-tell-in-Answered-clause-ok g c =
    let d = g.K.Keeper.kept c.args.keeper.now in
    taken_part c.args.clerk c.args.msg.now c.in-Some.part (under d c.args.self.now) (sym c.in-Some.ensures) ∙ c.in-Answered.ensures (does c.args.clerk c.args.msg.now) ∙ sym (c.in_ok-tell-in-Answered.ensures.does d)
