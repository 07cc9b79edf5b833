use Rattle.ec_server.specs.KeeperLaws.{start_takes, hurts_start, late_start}
use Rattle.std.proofs.lemmas.Result.{err_from_is_err_and}
use Rattle.ec_protocol.specs.Server as machine
use Rattle.ec_server.specs.Laws.{started}
use Rattle.ec_server.proofs.state.Core.start.Goals as goal

pub returns-in_ok-tell_all-clause-ok : goal.returns-in_ok-tell_all-clause-ok
returns-in_ok-tell_all-clause-ok g c =
    let kept = g.K.Keeper.kept in
    started _ c.epoch-last.result (kept c.args.keeper.now) (kept c.commit.new.keeper) c.args.self.now c.commit.new.self c.tell_all.new.self
    c.requires c.if-branch.true c.epoch-last.ensures c.if-last-ge-LAST_COUNTER.false c.in_ok-commit.ensures.ok c.in_ok-tell_all.ensures.does

pub returns-in_err-commit-clause-keeper : goal.returns-in_err-commit-clause-keeper
returns-in_err-commit-clause-keeper g c =
    let d = g.K.Keeper.kept c.args.keeper.now in
    let p = err_from_is_err_and c.from_residual.result c.from_residual.ensures.1 in
    rw (p.1, p.2)
    (hurts_start g.K.Keeper.did g.K.Keeper.broke _ _ d c.args.self.now _ c.args.keeper.now c.commit.new.keeper c.in_err-commit.ensures.keeper
    (λ e is. start_takes _ d e c.epoch-last.ensures c.if-last-ge-LAST_COUNTER.false is))

pub returns-in_err-tell_all-clause-keeper : goal.returns-in_err-tell_all-clause-keeper
returns-in_err-tell_all-clause-keeper g c =
    let kept = g.K.Keeper.kept in
    let d = kept c.args.keeper.now in
    let e = kept c.commit.new.keeper in
    let p = err_from_is_err_and c.from_residual-in_err-tell_all.result c.from_residual-in_err-tell_all.ensures.1 in
    rw (p.1, p.2)
    (late_start g.K.Keeper.did g.K.Keeper.broke _ _ d e c.args.self.now c.commit.new.self (machine.start d) _ _ c.args.keeper.now c.commit.new.keeper c.if-branch.true c.in_ok-commit.ensures.ok c.in_ok-commit.ensures.did
    (λ is. start_takes _ d e c.epoch-last.ensures c.if-last-ge-LAST_COUNTER.false is))
