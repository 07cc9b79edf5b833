use Rattle.std.proofs.Common.{sym, subst, ◌∙◌, List}
use Rattle.ec_sessions.specs.declared.recall.want.Action.{Action}
use Rattle.ec_admission.specs.Clerks.{IsOpenIn}
use Rattle.ec_server.specs.Clerks.{Each, session_of}
use Rattle.ec_server.specs.ServeLaws.{due_clerks}
use Rattle.ec_server.specs.Steps.{under}
use Rattle.ec_server.proofs.state.Core.serve_round.Goals as goal

pub act_all-requires-clause-clerks : goal.act_all-requires-clause-clerks
act_all-requires-clause-clerks g c =
    let d = g.K.Keeper.kept c.args.keeper.now in
    subst (λ (list : List Action). Each (λ a. IsOpenIn d.sessions (session_of a)) list) (sym (c.deref.ensures.value ∙ c.in_ok-actions.ensures.actions)) (due_clerks (under d c.args.self.now) c.requires)
