use Rattle.ec_server.specs.KeeperLaws.{hurts_served, may_served, did_served}
use Rattle.std.proofs.lemmas.Result.{err_from_is_err_and}
use Rattle.std.proofs.Common.{ap, sym, ◌∙◌}
use Rattle.ec_durable.specs.Durable.{slot}
use Rattle.ec_protocol.specs.Server as machine
use Rattle.ec_server.specs.CallLaws.{end_clerks, leaves_served}
use Rattle.ec_server.specs.Steps.{under, server}
use Rattle.ec_server.proofs.state.Core.end.Goals as goal

pub returns-in_err-end_open-clause-err : goal.returns-in_err-end_open-clause-err
returns-in_err-end_open-clause-err g c =
    let d = g.K.Keeper.kept c.args.keeper.now in
    let p = err_from_is_err_and c.from_residual.result c.from_residual.ensures.1 in
    rw (p.1, p.2) (leaves_served _ _ _ (machine.end_open c.args.clerk (slot d c.args.clerk)) (server d c.args.self.now) _ (under d c.begin.new.self) (c.begin.ensures d) c.in_err-end_open.ensures.err)

pub serve-requires : goal.serve-requires
serve-requires g c =
    let kept = g.K.Keeper.kept in
    let d = kept c.args.keeper.now in
    end_clerks c.args.clerk (server d c.args.self.now) (under d c.begin.new.self) (under (kept c.end_open.new.keeper) c.end_open.new.self) (c.begin.ensures d) c.in_ok-end_open.ensures.ok c.requires

pub returns-clause-ok : goal.returns-clause-ok
returns-clause-ok g c =
    let d = g.K.Keeper.kept c.args.keeper.now in
    ap (λ (t : machine.Serving). machine.serve (machine.end_open c.args.clerk (slot d c.args.clerk) t)) (sym (c.begin.ensures d)) ∙ ap machine.serve c.in_ok-end_open.ensures.ok ∙ c.in_ok-serve.ensures

pub returns-in_err-end_open-clause-keeper : goal.returns-in_err-end_open-clause-keeper
returns-in_err-end_open-clause-keeper g c =
    let d = g.K.Keeper.kept c.args.keeper.now in
    let p = err_from_is_err_and c.from_residual.result c.from_residual.ensures.1 in
    rw (p.1, p.2)
    (hurts_served g.K.Keeper.did g.K.Keeper.broke _ (under d c.begin.new.self) (machine.serving (server d c.args.self.now)) (machine.end_open c.args.clerk (slot d c.args.clerk)) c.args.keeper.now c.end_open.new.keeper
    (c.begin.ensures d) c.in_err-end_open.ensures.keeper)

pub returns-in_err-serve-clause-keeper : goal.returns-in_err-serve-clause-keeper
returns-in_err-serve-clause-keeper g c =
    let d = g.K.Keeper.kept c.args.keeper.now in
    let f : machine.Serving → machine.Serving = machine.end_open c.args.clerk (slot d c.args.clerk) in
    let p = err_from_is_err_and c.from_residual-in_err-serve.result c.from_residual-in_err-serve.ensures.1 in
    rw (p.1, p.2)
    (may_served g.K.Keeper.did g.K.Keeper.broke c.begin.new.self.rec (g.K.Keeper.kept c.end_open.new.keeper) c.end_open.new.self (f (machine.serving (server d c.args.self.now))) c.args.keeper.now c.end_open.new.keeper
    (ap (λ (t : machine.Serving). t.rec) (c.begin.ensures d)) (ap f (sym (c.begin.ensures d)) ∙ c.in_ok-end_open.ensures.ok) c.in_ok-end_open.ensures.did)

pub returns-clause-did : goal.returns-clause-did
returns-clause-did g c =
    let d = g.K.Keeper.kept c.args.keeper.now in
    did_served g.K.Keeper.did g.K.Keeper.broke (g.K.Keeper.kept c.end_open.new.keeper) c.begin.new.self.rec c.end_open.new.self c.serve.new.self c.args.keeper.now c.end_open.new.keeper
    (ap (λ (t : machine.Serving). t.rec) (c.begin.ensures d)) c.in_ok-serve.ensures c.in_ok-end_open.ensures.did
