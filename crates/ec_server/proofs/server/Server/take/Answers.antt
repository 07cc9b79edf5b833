use Rattle.std.proofs.Common.{subst, sym, T, Bool, true, ◌≡◌}
use Rattle.ec_server.specs.KeeperLaws.{answers_did, answers_hurt}
use Rattle.ec_server.specs.CallLaws.{answers_ok, answers_err, answers_stand, answers_record, answers_once, answers_now}
use Rattle.ec_machine_laws.specs.OfAppliedOnce.SafeServers.{IsSafe}
use Rattle.ec_machine_laws.proofs.OfAppliedOnce.Steps.{take-safe}
use Rattle.ec_server.specs.Clerks.{HaveClerks}
use Rattle.ec_server.specs.ServeLaws.{take_goes}
use Rattle.ec_sessions.specs.OfTokens.SoundTokens.{AllApart}
use Rattle.ec_protocol.specs.declared.server.Server.{Server as State}
use Rattle.ec_server.specs.Servers.{standing}
use Rattle.ec_server.proofs.server.Server.take.Goals as goal

truth : {b : Bool} → b ≡ true → T b
truth h = subst T (sym h) tt

pub returns-clause-ok : goal.returns-clause-ok
returns-clause-ok g c =
    answers_ok c.take-done.result c.answer.result _ _ c.take-done.new.self c.answer.new.self.core c.take-done.ensures.ok c.answer.ensures.ok (c.answer.ensures.same (g.K.Keeper.kept c.take-done.new.keeper))

pub returns-clause-err : goal.returns-clause-err
returns-clause-err g c =
    answers_err _ c.take-done.result c.answer.result _ _ _ _ _ c.take-done.new.self c.answer.new.self.core c.take-done.ensures.err c.answer.ensures.err (c.answer.ensures.same (g.K.Keeper.kept c.take-done.new.keeper))

pub returns-clause-stands : goal.returns-clause-stands
returns-clause-stands g c =
    let kept = g.K.Keeper.kept in
    let old = standing (kept c.args.keeper.now) c.args.self.now in
    let clerks = c.requires.keeper c.if-self.false in
    answers_stand HaveClerks c.answer.result _ _ _ _ _ old _ c.answer.ensures.down (returns-clause-ok g c) (returns-clause-err g c) (take_goes c.args.from c.args.msg.now old clerks).clerks clerks

pub returns-clause-record : goal.returns-clause-record
returns-clause-record g c =
    let old = standing (g.K.Keeper.kept c.args.keeper.now) c.args.self.now in
    answers_record c.answer.result _ _ (standing (g.K.Keeper.kept c.take-done.new.keeper) c.answer.new.self) (returns-clause-ok g c) (take_goes c.args.from c.args.msg.now old (c.requires.keeper c.if-self.false))

pub returns-clause-did : goal.returns-clause-did
returns-clause-did g c = answers_did g.K.Keeper.did g.K.Keeper.broke c.take-done.result c.answer.result c.take-done.new.self c.args.keeper.now c.take-done.new.keeper c.take-done.ensures.did c.answer.ensures.ok

pub returns-clause-keeper : goal.returns-clause-keeper
returns-clause-keeper g c = answers_hurt g.K.Keeper.did g.K.Keeper.broke _ c.take-done.result c.answer.result _ c.args.keeper.now c.take-done.new.keeper c.take-done.ensures.keeper c.answer.ensures.err

pub returns-then-self-clause-apart : goal.returns-then-self-clause-apart
returns-then-self-clause-apart g c = c.read_tokens.ensures.apart

pub returns-clause-apart : goal.returns-clause-apart
returns-clause-apart g c = subst (λ (v : State). AllApart v.tokens) (sym (c.answer.ensures.same (g.K.Keeper.kept c.take-done.new.keeper))) c.answer.ensures.apart

pub returns-clause-safe : goal.returns-clause-safe
returns-clause-safe g c =
    let kept = g.K.Keeper.kept in
    let old = standing (kept c.args.keeper.now) c.args.self.now in
    λ up safe. answers_stand IsSafe c.answer.result _ _ _ _ _ old _ c.answer.ensures.down (returns-clause-ok g c) (returns-clause-err g c) (take-safe c.args.from c.args.msg.now old (truth c.requires.sound) safe) safe up

pub returns-clause-once : goal.returns-clause-once
returns-clause-once g c = answers_once c.answer.result _ _ (returns-clause-record g c)

pub returns-clause-now : goal.returns-clause-now
returns-clause-now g c = answers_now c.answer.result _ _ (returns-clause-record g c)
