use Rattle.std.proofs.Common.{◌≡◌, drop}
use Rattle.ec_protocol.specs.Server as machine
use Rattle.ec_sessions.specs.OfRecall.Rounds.{GrantsGoIn}
use Rattle.ec_admission.specs.Clerks.{IsOpenIn}
use Rattle.ec_server.specs.Clerks.{Each, session_of}
use Rattle.ec_server.specs.Steps.{under}
use Rattle.ec_server.proofs.state.Core.act_all.Given as goal

abbrev pub invariant-actions : goal.invariant-actions
invariant-actions g l =
    let d = g.K.Keeper.kept l.keeper in
    (machine.act_all (drop l.action-index l.actions) (under d l.self) ≡ machine.act_all l.actions (under d l.fn.self))
    × GrantsGoIn l.self.tokens (drop l.action-index l.actions)
    × Each (λ action. IsOpenIn d.sessions (session_of action)) (drop l.action-index l.actions)
