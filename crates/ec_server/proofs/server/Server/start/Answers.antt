use Rattle.std.proofs.Common.{subst}
use Rattle.ec_protocol.specs.Server as machine
use Rattle.ec_machine_laws.specs.OfAppliedOnce.SafeServers.{IsSafe}
use Rattle.ec_machine_laws.proofs.OfAppliedOnce.Steps.{start-safe}
use Rattle.ec_server.specs.CallLaws.{call_answered, record_by, once_by}
use Rattle.ec_server.specs.Clerks.{HaveClerks}
use Rattle.ec_server.specs.ServeLaws.{start_goes}
use Rattle.ec_server.specs.Steps.{server}
use Rattle.ec_server.proofs.server.Server.start.Goals as goal

pub returns-clause-ok : goal.returns-clause-ok
returns-clause-ok g c =
    let e = g.K.Keeper.kept c.start.new.keeper in
    call_answered (machine.start (g.K.Keeper.kept c.args.keeper.now)) e c.start.new.self c.served-served.new.self c.served-served.result c.in_ok-start.ensures.ok (c.served-served.ensures.same e) c.served-served.ensures.sent c.served-served.ensures.rec

pub returns-clause-stands : goal.returns-clause-stands
returns-clause-stands g c = λ up. subst (λ (t : machine.Serving). HaveClerks t.server) (returns-clause-ok g c) (start_goes (g.K.Keeper.kept c.args.keeper.now)).clerks

pub returns-clause-record : goal.returns-clause-record
returns-clause-record g c =
    let d = g.K.Keeper.kept c.args.keeper.now in
    record_by (machine.start d) d (server (g.K.Keeper.kept c.start.new.keeper) c.served-served.new.self) c.served-served.result (returns-clause-ok g c) (start_goes d)

pub returns-clause-safe : goal.returns-clause-safe
returns-clause-safe g c = λ formed. subst (λ (t : machine.Serving). IsSafe t.server) (returns-clause-ok g c) (start-safe (g.K.Keeper.kept c.args.keeper.now) formed)

pub returns-clause-once : goal.returns-clause-once
returns-clause-once g c = once_by c.served-served.result.rec (g.K.Keeper.kept c.args.keeper.now) (g.K.Keeper.kept c.start.new.keeper) (returns-clause-record g c)
