use Rattle.std.proofs.Common.{ap, ◌∙◌}
use Rattle.ec_durable.specs.declared.state.Durable.{Durable}
use Rattle.ec_admission.specs.Claims.{all_claimed}
use Rattle.ec_server.specs.ClaimLaws.{claims_are}
use Rattle.ec_server.specs.Steps.{server}
use Rattle.ec_server.proofs.state.Core.all_claimed.Goals as goal

pub returns : goal.returns
returns g c =
    let s = server (g.K.Keeper.kept c.args.keeper.now) c.args.self.now in
    c.all_claimed.ensures
    ∙ ap (λ cs. all_claimed cs c.view.result.now.sessions) c.deref.ensures.value
    ∙ ap (λ (d : Durable). all_claimed s.claimed d.sessions) c.view.ensures.kept
    ∙ claims_are s
