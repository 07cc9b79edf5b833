use Rattle.std.proofs.Common.{sym, ◌∙◌}
use Rattle.ec_doing.proofs.Steps.{on_ok, opened}
use Rattle.ec_doing.proofs.doing.Doing.take_opened.Goals as goal

pub returns : goal.returns
returns c = on_ok c.send.result (λ p ws. opened ws c.args.self.now c.args.age c.args.session c.args.epoch _ (sym c.has_session.ensures ∙ c.if-has_session.false) (sym c.same_age.ensures ∙ c.if-not-same_age.false) (p ws)) (rw (c.of.ensures ∙ c.new.ensures.items) at c.send.ensures)
