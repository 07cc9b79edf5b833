use Rattle.std.proofs.Common.{ap, sym, ◌∙◌, ℕ}
use Rattle.ec_volume.specs.declared.image.Image.{Image}
use Rattle.ec_wire.specs.declared.msg.Msg.TheVariants.{Grant}
use Rattle.ec_protocol.specs.Server as machine
use Rattle.ec_server.specs.Steps.{under}
use Rattle.ec_server.proofs.state.Core.send_grant.Goals as goal

pub returns-clause-does : goal.returns-clause-does
returns-clause-does g c =
    let d = g.K.Keeper.kept c.args.keeper.now in
    let t = under d c.args.self.now in
    let sent : ℕ → Image → machine.Serving = λ e i. machine.tell c.args.clerk (Grant c.args.session e c.args.obj c.args.token.number c.args.token.hold i) t in
    ap (λ i. sent d.epoch i) (sym c.in_ok-image.ensures) ∙ ap (λ e. sent e c.in_ok-image.image) (sym c.epoch.ensures) ∙ sym (c.in_ok-tell.ensures.does d)
