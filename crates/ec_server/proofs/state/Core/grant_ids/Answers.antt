use Rattle.ec_server.specs.KeeperLaws.{grant_takes, commits, hurts, late_want}
use Rattle.std.proofs.lemmas.Result.{err_from_is_err_and}
use Rattle.std.proofs.Common.{ap, sym, ◌∙◌}
use Rattle.ec_wire.specs.declared.msg.Msg.{Msg}
use Rattle.ec_protocol.specs.Server as machine
use Rattle.ec_server.specs.Laws.{no_room, granted_ids}
use Rattle.ec_server.specs.Steps.{under}
use Rattle.ec_server.proofs.state.Core.grant_ids.Goals as goal

pub returns-then-is_full-clause-ok : goal.returns-then-is_full-clause-ok
returns-then-is_full-clause-ok g c =
    let d = g.K.Keeper.kept c.args.keeper.now in
    let t = under d c.args.self.now in
    no_room c.args.clerk c.args.session c.args.got c.args.ask t (sym c.is_full.ensures ∙ c.if-is_full.true) ∙ ap (λ (m : Msg). machine.tell c.args.clerk m t) (sym c.no_room-answer.ensures) ∙ sym (c.in_ok-tell.ensures.does d)

pub returns-in_ok-send_ids-clause-ok : goal.returns-in_ok-send_ids-clause-ok
returns-in_ok-send_ids-clause-ok g c =
    let kept = g.K.Keeper.kept in
    granted_ids c.args.clerk c.args.session c.args.got c.args.ask c.in-Some.first _ (kept c.args.keeper.now) (kept c.commit.new.keeper) c.args.self.now c.commit.new.self c.record_ids.new.self c.send_ids.new.self
    c.if-branch.true (sym c.is_full.ensures ∙ c.if-is_full.false) c.in-Some.ensures.next.1 c.in-Some.ensures.next.0 c.in_ok-commit.ensures.ok c.in_ok-record_ids.ensures.does c.in_ok-send_ids.ensures.does

pub returns-in_err-commit-clause-keeper : goal.returns-in_err-commit-clause-keeper
returns-in_err-commit-clause-keeper g c =
    let d = g.K.Keeper.kept c.args.keeper.now in
    let p = err_from_is_err_and c.from_residual-in_err-commit.result c.from_residual-in_err-commit.ensures.1 in
    rw (p.1, p.2)
    (hurts g.K.Keeper.did g.K.Keeper.broke _ _ d c.args.self.now _ c.args.keeper.now c.commit.new.keeper c.in_err-commit.ensures.keeper
    (λ e is. grant_takes c.args.clerk c.args.session c.args.got c.args.ask _ d e c.args.self.now (sym c.is_full.ensures ∙ c.if-is_full.false) c.in-Some.ensures.next.1 c.in-Some.ensures.next.0 is))

pub returns-in_err-record_ids-clause-keeper : goal.returns-in_err-record_ids-clause-keeper
returns-in_err-record_ids-clause-keeper g c =
    let kept = g.K.Keeper.kept in
    let d = kept c.args.keeper.now in
    let e = kept c.commit.new.keeper in
    let p = err_from_is_err_and c.from_residual-in_err-record_ids.result c.from_residual-in_err-record_ids.ensures.1 in
    rw (p.1, p.2)
    (late_want g.K.Keeper.did g.K.Keeper.broke _ _ d e c.args.self.now c.commit.new.self _ _ _ c.args.keeper.now c.commit.new.keeper c.if-branch.true c.in_ok-commit.ensures.ok c.in_ok-commit.ensures.did
    (λ is. grant_takes c.args.clerk c.args.session c.args.got c.args.ask _ d e c.args.self.now (sym c.is_full.ensures ∙ c.if-is_full.false) c.in-Some.ensures.next.1 c.in-Some.ensures.next.0 is))

pub returns-in_err-send_ids-clause-keeper : goal.returns-in_err-send_ids-clause-keeper
returns-in_err-send_ids-clause-keeper g c =
    let kept = g.K.Keeper.kept in
    let d = kept c.args.keeper.now in
    let e = kept c.commit.new.keeper in
    let p = err_from_is_err_and c.from_residual-in_err-send_ids.result c.from_residual-in_err-send_ids.ensures.1 in
    rw (p.1, p.2)
    (late_want g.K.Keeper.did g.K.Keeper.broke _ _ d e c.args.self.now c.commit.new.self _ _ _ c.args.keeper.now c.commit.new.keeper c.if-branch.true c.in_ok-commit.ensures.ok c.in_ok-commit.ensures.did
    (λ is. grant_takes c.args.clerk c.args.session c.args.got c.args.ask _ d e c.args.self.now (sym c.is_full.ensures ∙ c.if-is_full.false) c.in-Some.ensures.next.1 c.in-Some.ensures.next.0 is))

pub returns-in_ok-send_ids-clause-did : goal.returns-in_ok-send_ids-clause-did
returns-in_ok-send_ids-clause-did g c =
    let d = g.K.Keeper.kept c.args.keeper.now in
    let e = g.K.Keeper.kept c.commit.new.keeper in
    commits g.K.Keeper.did g.K.Keeper.broke _ _ d e e c.args.self.now c.commit.new.self c.send_ids.new.self _ _ _ c.args.keeper.now c.commit.new.keeper c.if-branch.true c.in_ok-commit.ensures.ok c.in_ok-commit.ensures.did
    (c.in_ok-send_ids.ensures.rec ∙ c.in_ok-record_ids.ensures.rec)
    (λ is. grant_takes c.args.clerk c.args.session c.args.got c.args.ask _ d e c.args.self.now (sym c.is_full.ensures ∙ c.if-is_full.false) c.in-Some.ensures.next.1 c.in-Some.ensures.next.0 is) (returns-in_ok-send_ids-clause-ok g c)
