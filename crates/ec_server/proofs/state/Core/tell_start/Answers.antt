use Rattle.std.proofs.Common.{refl, sym, ◌∙◌}
use Rattle.ec_server.specs.Steps.{under}
use Rattle.ec_server.proofs.state.Core.tell_start.Goals as goal

pub returns-clause-does : goal.returns-clause-does
returns-clause-does g c = let d = g.K.Keeper.kept c.args.keeper.now in c.news-news.ensures (under d c.args.self.now) refl ∙ sym (c.in_ok-tell.ensures.does d)
