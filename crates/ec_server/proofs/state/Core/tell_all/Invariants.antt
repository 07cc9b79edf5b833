use Rattle.std.proofs.Common.{◌≡◌, drop}
use Rattle.ec_protocol.specs.Server as machine
use Rattle.ec_server.specs.Steps.{under}
use Rattle.ec_server.proofs.state.Core.tell_all.Given as goal

abbrev pub invariant-clerks : goal.invariant-clerks
invariant-clerks g l =
    let d = g.K.Keeper.kept l.keeper in
    (machine.tell_all l.number (drop l.number d.sessions) (under d l.self) ≡ machine.tell_all 0 d.sessions (under d l.fn.self)) × (l.self.rec ≡ l.fn.self.rec)
