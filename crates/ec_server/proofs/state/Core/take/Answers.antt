use Rattle.ec_server.specs.KeeperLaws.{hurts_served, may_served, did_served}
use Rattle.std.proofs.lemmas.Result.{err_from_is_err_and}
use Rattle.std.proofs.Common.{ap, sym, ◌∙◌}
use Rattle.ec_protocol.specs.Server as machine
use Rattle.ec_server.specs.CallLaws.{taken_clerks, leaves_served}
use Rattle.ec_server.specs.Steps.{under, server}
use Rattle.ec_server.proofs.state.Core.take.Goals as goal

pub returns-in_err-taken-clause-err : goal.returns-in_err-taken-clause-err
returns-in_err-taken-clause-err g c =
    let d = g.K.Keeper.kept c.args.keeper.now in
    let p = err_from_is_err_and c.from_residual.result c.from_residual.ensures.1 in
    rw (p.1, p.2) (leaves_served _ _ _ (machine.taken c.args.from c.args.msg.now) (server d c.args.self.now) _ (under d c.begin.new.self) (c.begin.ensures d) c.in_err-taken.ensures.err)

pub serve-requires : goal.serve-requires
serve-requires g c =
    let kept = g.K.Keeper.kept in
    let d = kept c.args.keeper.now in
    taken_clerks c.args.from c.args.msg.now (server d c.args.self.now) (under d c.begin.new.self) (under (kept c.taken.new.keeper) c.taken.new.self) (c.begin.ensures d) c.in_ok-taken.ensures.ok c.requires.clerks

pub returns-clause-ok : goal.returns-clause-ok
returns-clause-ok g c =
    let d = g.K.Keeper.kept c.args.keeper.now in
    ap (λ (t : machine.Serving). machine.serve (machine.taken c.args.from c.args.msg.now t)) (sym (c.begin.ensures d)) ∙ ap machine.serve c.in_ok-taken.ensures.ok ∙ c.in_ok-serve.ensures

pub returns-in_err-taken-clause-keeper : goal.returns-in_err-taken-clause-keeper
returns-in_err-taken-clause-keeper g c =
    let d = g.K.Keeper.kept c.args.keeper.now in
    let p = err_from_is_err_and c.from_residual.result c.from_residual.ensures.1 in
    rw (p.1, p.2)
    (hurts_served g.K.Keeper.did g.K.Keeper.broke _ (under d c.begin.new.self) (machine.serving (server d c.args.self.now)) (machine.taken c.args.from c.args.msg.now) c.args.keeper.now c.taken.new.keeper
    (c.begin.ensures d) c.in_err-taken.ensures.keeper)

pub returns-in_err-serve-clause-keeper : goal.returns-in_err-serve-clause-keeper
returns-in_err-serve-clause-keeper g c =
    let d = g.K.Keeper.kept c.args.keeper.now in
    let f : machine.Serving → machine.Serving = machine.taken c.args.from c.args.msg.now in
    let p = err_from_is_err_and c.from_residual-in_err-serve.result c.from_residual-in_err-serve.ensures.1 in
    rw (p.1, p.2)
    (may_served g.K.Keeper.did g.K.Keeper.broke c.begin.new.self.rec (g.K.Keeper.kept c.taken.new.keeper) c.taken.new.self (f (machine.serving (server d c.args.self.now))) c.args.keeper.now c.taken.new.keeper
    (ap (λ (t : machine.Serving). t.rec) (c.begin.ensures d)) (ap f (sym (c.begin.ensures d)) ∙ c.in_ok-taken.ensures.ok) c.in_ok-taken.ensures.did)

pub returns-clause-did : goal.returns-clause-did
returns-clause-did g c =
    let d = g.K.Keeper.kept c.args.keeper.now in
    did_served g.K.Keeper.did g.K.Keeper.broke (g.K.Keeper.kept c.taken.new.keeper) c.begin.new.self.rec c.taken.new.self c.serve.new.self c.args.keeper.now c.taken.new.keeper
    (ap (λ (t : machine.Serving). t.rec) (c.begin.ensures d)) c.in_ok-serve.ensures c.in_ok-taken.ensures.did
