use Rattle.ec_server.specs.KeeperLaws.{flush_takes_by, flush_ends, commits, hurts, hurts_refused, late_want}
use Rattle.ec_server.specs.Keepers.{Hurts, HasNumbers}
use Rattle.std.proofs.Common.{inl}
use Rattle.std.specs.Prelude.{IfErr}
use Rattle.std.proofs.lemmas.Result.{err_from_is_err_and}
use Rattle.std.proofs.Common.{ap, sym, ◌∙◌, subst}
use Rattle.ec_durable.specs.declared.record.Record.TheVariants.{Batch}
use Rattle.ec_wire.specs.declared.msg.Msg.TheVariants.{Kept}
use Rattle.ec_protocol.specs.Server as machine
use Rattle.ec_server.specs.Laws.{keeps_again, keeps_new}
use Rattle.ec_server.specs.Steps.{under, Commits}
use Rattle.ec_server.proofs.state.Core.flush.Goals as goal

pub returns-then-is_done-clause-ok : goal.returns-then-is_done-clause-ok
returns-then-is_done-clause-ok g c =
    let d = g.K.Keeper.kept c.args.keeper.now in
    let t = under d c.args.self.now in
    keeps_again c.args.clerk c.args.session c.args.batch c.args.ops.now t (sym c.is_done.ensures ∙ c.if-is_done.true)
    ∙ ap (λ n. machine.tell c.args.clerk (Kept c.args.session n c.args.batch) t) (sym c.epoch.ensures) ∙ sym (c.in_ok-tell.ensures.does d)

pub returns-clause-ok : goal.returns-clause-ok
returns-clause-ok g c =
    let kept = g.K.Keeper.kept in
    let old = kept c.args.keeper.now in
    let new = kept c.commit.new.keeper in
    let may = ap (machine.may_write c.args.self.now.tokens c.args.session) (sym c.as_slice.ensures) ∙ sym c.in_ok-may_write.ensures ∙ c.if-not-branch.false in
    let done = subst (λ ops. Commits c.in_ok-commit.field-0 (Batch c.args.clerk c.args.session c.args.batch ops) old new c.args.self.now c.commit.new.self) c.in_ok-duplicate.ensures c.in_ok-commit.ensures.ok in
    keeps_new _ c.args.clerk c.args.session c.args.batch c.epoch-2.result c.args.ops.now old new c.args.self.now c.commit.new.self c.tell-2.new.self
    c.if-not-branch-2.false c.epoch-2.ensures (sym c.is_done.ensures ∙ c.if-is_done.false) may done c.in_ok-tell-2.ensures.does

pub returns-in_err-commit-clause-keeper : goal.returns-in_err-commit-clause-keeper
returns-in_err-commit-clause-keeper g c =
    let d = g.K.Keeper.kept c.args.keeper.now in
    let may = ap (machine.may_write c.args.self.now.tokens c.args.session) (sym c.as_slice.ensures) ∙ sym c.in_ok-may_write.ensures ∙ c.if-not-branch.false in
    let p = err_from_is_err_and c.from_residual-in_err-commit.result c.from_residual-in_err-commit.ensures.1 in
    rw (p.1, p.2)
    (hurts g.K.Keeper.did g.K.Keeper.broke _ _ d c.args.self.now _ c.args.keeper.now c.commit.new.keeper c.in_err-commit.ensures.keeper
    (λ e is. flush_takes_by c.args.clerk c.args.session c.args.batch _ c.args.ops.now d e c.args.self.now c.in_ok-duplicate.ensures (sym c.is_done.ensures ∙ c.if-is_done.false) may is))

pub returns-in_err-tell-2-clause-keeper : goal.returns-in_err-tell-2-clause-keeper
returns-in_err-tell-2-clause-keeper g c =
    let kept = g.K.Keeper.kept in
    let d = kept c.args.keeper.now in
    let e = kept c.commit.new.keeper in
    let may = ap (machine.may_write c.args.self.now.tokens c.args.session) (sym c.as_slice.ensures) ∙ sym c.in_ok-may_write.ensures ∙ c.if-not-branch.false in
    let p = err_from_is_err_and c.from_residual-in_err-tell-2.result c.from_residual-in_err-tell-2.ensures.1 in
    rw (p.1, p.2)
    (late_want g.K.Keeper.did g.K.Keeper.broke _ _ d e c.args.self.now c.commit.new.self _ _ _ c.args.keeper.now c.commit.new.keeper c.if-not-branch-2.false c.in_ok-commit.ensures.ok c.in_ok-commit.ensures.did
    (λ is. flush_takes_by c.args.clerk c.args.session c.args.batch _ c.args.ops.now d e c.args.self.now c.in_ok-duplicate.ensures (sym c.is_done.ensures ∙ c.if-is_done.false) may is))

pub returns-then-not-branch-clause-keeper : goal.returns-then-not-branch-clause-keeper
returns-then-not-branch-clause-keeper g c =
    let d = g.K.Keeper.kept c.args.keeper.now in
    let may = ap (machine.may_write c.args.self.now.tokens c.args.session) (sym c.as_slice.ensures) ∙ sym c.in_ok-may_write.ensures ∙ c.if-not-branch.true in
    subst (λ (t : machine.Serving). IfErr c.finish.result (λ fault. Hurts HasNumbers g.K.Keeper.did g.K.Keeper.broke fault t c.args.keeper.now c.finish.new.keeper))
    (flush_ends c.args.clerk c.args.session c.args.batch c.args.ops.now d c.args.self.now (sym c.is_done.ensures ∙ c.if-is_done.false) (inl may)) c.finish.ensures.keeper

pub returns-then-not-branch-2-clause-keeper : goal.returns-then-not-branch-2-clause-keeper
returns-then-not-branch-2-clause-keeper g c =
    let kept = g.K.Keeper.kept in
    hurts_refused g.K.Keeper.did g.K.Keeper.broke c.finish-then-not-branch-2.result _ c.args.clerk c.args.session c.args.batch _ c.args.ops.now (kept c.args.keeper.now) (kept c.commit.new.keeper) c.args.self.now c.commit.new.self
    _ _ c.args.keeper.now c.commit.new.keeper c.finish-then-not-branch-2.new.keeper c.if-not-branch-2.true c.in_ok-duplicate.ensures (sym c.is_done.ensures ∙ c.if-is_done.false)
    c.in_ok-commit.ensures.ok c.in_ok-commit.ensures.did c.finish-then-not-branch-2.ensures.keeper

pub returns-clause-did : goal.returns-clause-did
returns-clause-did g c =
    let d = g.K.Keeper.kept c.args.keeper.now in
    let e = g.K.Keeper.kept c.commit.new.keeper in
    let may = ap (machine.may_write c.args.self.now.tokens c.args.session) (sym c.as_slice.ensures) ∙ sym c.in_ok-may_write.ensures ∙ c.if-not-branch.false in
    commits g.K.Keeper.did g.K.Keeper.broke _ _ d e e c.args.self.now c.commit.new.self c.tell-2.new.self _ _ _ c.args.keeper.now c.commit.new.keeper c.if-not-branch-2.false c.in_ok-commit.ensures.ok c.in_ok-commit.ensures.did
    c.in_ok-tell-2.ensures.rec
    (λ is. flush_takes_by c.args.clerk c.args.session c.args.batch _ c.args.ops.now d e c.args.self.now c.in_ok-duplicate.ensures (sym c.is_done.ensures ∙ c.if-is_done.false) may is) (returns-clause-ok g c)
