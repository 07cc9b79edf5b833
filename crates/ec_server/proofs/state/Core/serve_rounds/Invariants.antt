use Rattle.std.proofs.Common.{◌≡◌, suc, length}
use Rattle.ec_protocol.specs.Server as machine
use Rattle.ec_server.specs.Clerks.{HaveClerks}
use Rattle.ec_server.specs.Steps.{under, server}
use Rattle.ec_server.proofs.state.Core.serve_rounds.Given as goal

abbrev pub invariant-rounds : goal.invariant-rounds
invariant-rounds g l =
    let d = g.K.Keeper.kept l.keeper in
    (machine.serve_rounds (suc (length l.self.recalls)) (under d l.self) ≡ machine.serve_rounds (suc (length l.fn.self.recalls)) (under d l.fn.self)) × HaveClerks (server d l.self)

abbrev pub decreases-rounds : goal.decreases-rounds
decreases-rounds g l = length l.self.recalls
