use Rattle.std.proofs.Common.{ap, sym, ◌∙◌}
use Rattle.ec_wire.specs.declared.msg.Msg.TheVariants.{Opened, Ended}
use Rattle.ec_protocol.specs.Server as machine
use Rattle.ec_server.specs.Steps.{under}
use Rattle.ec_server.proofs.state.Core.greet.Goals as goal

pub returns-in_ok-tell-in-Same-clause-ok : goal.returns-in_ok-tell-in-Same-clause-ok
returns-in_ok-tell-in-Same-clause-ok g c =
    let d = g.K.Keeper.kept c.args.keeper.now in
    let t = under d c.args.self.now in
    ap (λ o. machine.greet c.args.clerk c.args.age o t) c.in-Same.is
    ∙ ap (λ n. machine.tell c.args.clerk (Opened c.args.age c.in-Same.session n) t) (sym c.epoch-epoch.ensures)
    ∙ sym (c.in_ok-tell-in-Same.ensures.does d)

pub returns-in_ok-tell-in-Ended-2-clause-ok : goal.returns-in_ok-tell-in-Ended-2-clause-ok
returns-in_ok-tell-in-Ended-2-clause-ok g c =
    let d = g.K.Keeper.kept c.args.keeper.now in
    let t = under d c.args.self.now in
    let ends = machine.tell c.args.clerk (Ended c.in-Ended.session c.in-Ended.window.low c.in-Ended.window.mask) in
    ap (λ o. machine.greet c.args.clerk c.args.age o t) c.in-Ended.is
    ∙ ap (λ n. ends (machine.tell c.args.clerk (Opened c.args.age c.in-Ended.session n) t)) (sym c.epoch-epoch.ensures)
    ∙ ap ends (sym (c.in_ok-tell-in-Ended.ensures.does d))
    ∙ sym (c.in_ok-tell-in-Ended-2.ensures.does d)

pub returns-in_ok-tell-in-OldBoot-clause-ok : goal.returns-in_ok-tell-in-OldBoot-clause-ok
returns-in_ok-tell-in-OldBoot-clause-ok g c =
    let d = g.K.Keeper.kept c.args.keeper.now in
    ap (λ o. machine.greet c.args.clerk c.args.age o (under d c.args.self.now)) c.in-OldBoot.is ∙ sym (c.in_ok-tell-in-OldBoot.ensures.does d)
