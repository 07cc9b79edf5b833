use Rattle.std.proofs.Common.{sym, ◌∙◌}
use Rattle.ec_server.specs.Laws.{wants_none, wants_low}
use Rattle.ec_server.specs.Steps.{under}
use Rattle.ec_server.proofs.state.Core.want.Goals as goal

pub returns-in_default-clause-does : goal.returns-in_default-clause-does
returns-in_default-clause-does g c =
    let d = g.K.Keeper.kept c.args.keeper.now in
    wants_none c.args.clerk c.args.session c.args.obj c.args.wanted.hold c.args.wanted.number (under d c.args.self.now) (sym c.token.ensures.token ∙ c.in_default.is) ∙ sym (c.in_ok-note.ensures.does d)

pub returns-in_ok-note-2-clause-does : goal.returns-in_ok-note-2-clause-does
returns-in_ok-note-2-clause-does g c =
    let d = g.K.Keeper.kept c.args.keeper.now in
    wants_low c.args.clerk c.args.session c.args.obj c.args.wanted.hold c.args.wanted.number (under d c.args.self.now) _ (sym c.token.ensures.token ∙ c.in-Some.is) c.if-last-number.false ∙ sym (c.in_ok-note-2.ensures.does d)
