use Rattle.std.proofs.Common.{◌∙◌}
use Rattle.ec_server.specs.KeeperLaws.{finish_takes, commits, hurts, late_want}
use Rattle.std.proofs.lemmas.Result.{err_from_is_err_and}
use Rattle.ec_server.specs.Laws.{finishes}
use Rattle.ec_server.proofs.state.Core.finish.Goals as goal

pub returns-in_ok-tell-clause-ok : goal.returns-in_ok-tell-clause-ok
returns-in_ok-tell-clause-ok g c =
    let l = c.in-Some.ensures in
    let kept = g.K.Keeper.kept in
    finishes c.args.clerk l.0 _ _ _ (kept c.args.keeper.now) (kept c.commit.new.keeper) c.args.self.now c.commit.new.self c.forget.new.self c.tell.new.self
    l.1 l.2 l.3 c.if-branch.true c.in_ok-commit.ensures.ok c.forget.ensures.does c.in_ok-tell.ensures.does

pub returns-in_err-commit-clause-keeper : goal.returns-in_err-commit-clause-keeper
returns-in_err-commit-clause-keeper g c =
    let l = c.in-Some.ensures in
    let d = g.K.Keeper.kept c.args.keeper.now in
    let p = err_from_is_err_and c.from_residual.result c.from_residual.ensures.1 in
    rw (p.1, p.2)
    (hurts g.K.Keeper.did g.K.Keeper.broke _ _ d c.args.self.now _ c.args.keeper.now c.commit.new.keeper c.in_err-commit.ensures.keeper
    (λ e is. finish_takes c.args.clerk l.0 _ d e c.args.self.now l.1 l.2 is))

pub returns-in_err-tell-clause-keeper : goal.returns-in_err-tell-clause-keeper
returns-in_err-tell-clause-keeper g c =
    let l = c.in-Some.ensures in
    let kept = g.K.Keeper.kept in
    let d = kept c.args.keeper.now in
    let e = kept c.commit.new.keeper in
    let p = err_from_is_err_and c.from_residual-in_err-tell.result c.from_residual-in_err-tell.ensures.1 in
    rw (p.1, p.2)
    (late_want g.K.Keeper.did g.K.Keeper.broke _ _ d e c.args.self.now c.commit.new.self _ _ _ c.args.keeper.now c.commit.new.keeper c.if-branch.true c.in_ok-commit.ensures.ok c.in_ok-commit.ensures.did
    (λ is. finish_takes c.args.clerk l.0 _ d e c.args.self.now l.1 l.2 is))

pub returns-in_ok-tell-clause-did : goal.returns-in_ok-tell-clause-did
returns-in_ok-tell-clause-did g c =
    let l = c.in-Some.ensures in
    let d = g.K.Keeper.kept c.args.keeper.now in
    let e = g.K.Keeper.kept c.commit.new.keeper in
    commits g.K.Keeper.did g.K.Keeper.broke _ _ d e e c.args.self.now c.commit.new.self c.tell.new.self _ _ _ c.args.keeper.now c.commit.new.keeper c.if-branch.true c.in_ok-commit.ensures.ok c.in_ok-commit.ensures.did
    (c.in_ok-tell.ensures.rec ∙ c.forget.ensures.rec) (λ is. finish_takes c.args.clerk l.0 _ d e c.args.self.now l.1 l.2 is) (returns-in_ok-tell-clause-ok g c)
