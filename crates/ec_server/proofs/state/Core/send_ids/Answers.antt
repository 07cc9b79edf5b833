use Rattle.std.proofs.Common.{ap, sym, ◌∙◌}
use Rattle.ec_wire.specs.declared.msg.Msg.TheVariants.{Ids}
use Rattle.ec_protocol.specs.Server as machine
use Rattle.ec_server.specs.Steps.{under}
use Rattle.ec_server.proofs.state.Core.send_ids.Goals as goal

pub returns-clause-does : goal.returns-clause-does
returns-clause-does g c =
    let d = g.K.Keeper.kept c.args.keeper.now in
    let t = under d c.args.self.now in
    ap (λ n. machine.tell c.args.clerk (Ids c.args.session d.epoch c.args.got n c.args.first) t) (sym c.last_recording-number.ensures)
    ∙ ap (λ e. machine.tell c.args.clerk (Ids c.args.session e c.args.got c.last_recording-number.result c.args.first) t) (sym c.epoch-now.ensures)
    ∙ sym (c.in_ok-tell.ensures.does d)
