use Rattle.std.proofs.Common.{ap, ◌∙◌, filter, rules}
use Rattle.std.proofs.lemmas.Fn.{filter_same}
use Rattle.ec_sessions.specs.OfTokens.Tokens.{is_conflict, holders}
use Rattle.ec_sessions.proofs.tokens.tokens.Tokens.conflicts.Goals as goal

pub returns-clause-conflicts : goal.returns-clause-conflicts
returns-clause-conflicts c =
    let test = is_conflict c.args.s c.args.hold in
    filter_same _ test _ (λ x b f' k. search rules) _ _ c.retain.ensures.filtered ∙ ap (filter test) (c.in_ok-holders.ensures ∙ ap (λ ts. holders ts c.args.obj) c.self.view_is)
