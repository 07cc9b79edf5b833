use Rattle.std.proofs.Common.{ap, sym, ◌∙◌}
use Rattle.ec_wire.specs.declared.msg.Msg.TheVariants.{Recall}
use Rattle.ec_protocol.specs.Server as machine
use Rattle.ec_server.specs.Steps.{under}
use Rattle.ec_server.proofs.state.Core.recall.Goals as goal

pub returns-clause-recalls : goal.returns-clause-recalls
returns-clause-recalls g c =
    let d = g.K.Keeper.kept c.args.keeper.now in
    let t = under d c.args.self.now in
    ap (λ k. machine.tell k (Recall c.args.session d.epoch c.args.obj c.args.number c.args.to) t) (sym c.clerk_of-clerk.ensures)
    ∙ ap (λ n. machine.tell c.clerk_of-clerk.result (Recall c.args.session n c.args.obj c.args.number c.args.to) t) (sym c.epoch-now.ensures) ∙ sym (c.in_ok-tell.ensures.does d)

pub returns-clause-tokens : goal.returns-clause-tokens
returns-clause-tokens g c = ap (λ (t : machine.Serving). t.server.tokens) (c.in_ok-tell.ensures.does (g.K.Keeper.kept c.args.keeper.now))
