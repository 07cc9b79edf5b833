use Rattle.std.proofs.Common.{ap, sym, ◌∙◌, ◌∷◌}
use Rattle.ec_sessions.specs.OfTokens.Tokens.{Tokens}
use Rattle.ec_protocol.specs.Server as machine
use Rattle.ec_server.specs.Laws.{claims}
use Rattle.ec_server.specs.Steps.{under}
use Rattle.ec_server.proofs.state.Core.claim.Goals as goal

pub returns-in_ok-add_claimed-in-Ok-clause-ok : goal.returns-in_ok-add_claimed-in-Ok-clause-ok
returns-in_ok-add_claimed-in-Ok-clause-ok g c =
    let d = g.K.Keeper.kept c.args.keeper.now in
    let t = under d c.args.self.now in
    let with_tokens : Tokens → machine.Serving = λ ts. machine.with_server (λ s. record s { tokens = ts; claimed = c.args.session ∷ s.claimed }) t in
    claims c.args.clerk c.args.session c.args.list.now t c.requires.slot (sym c.has_claimed.ensures ∙ c.if-has_claimed.false) c.in-Ok.ensures.clear
    ∙ ap with_tokens (sym c.in-Ok.ensures.ok) ∙ sym (c.in_ok-add_claimed-in-Ok.ensures.does d)
