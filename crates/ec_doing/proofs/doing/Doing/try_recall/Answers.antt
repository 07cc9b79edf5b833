use Rattle.std.proofs.Common.{sym, ◌∙◌}
use Rattle.ec_doing.specs.Seen.{doing_of}
use Rattle.ec_doing.proofs.Steps.{on_ok, recall_ready, recall_kept}
use Rattle.ec_doing.proofs.doing.Doing.try_recall.Goals as goal

pub returns-then-is_ready : goal.returns-then-is_ready
returns-then-is_ready c = on_ok c.give_back.result (λ p ws. recall_ready ws c.args.self.now c.args.recalled.now _ (sym c.is_ready.ensures ∙ c.if-is_ready.true) (p ws)) c.give_back.ensures

pub returns : goal.returns
returns c = on_ok c.keep_recall.result (λ p ws. recall_kept ws c.args.self.now c.args.recalled.now (doing_of ws c.ask_for.new.self) _ (sym c.is_ready.ensures ∙ c.if-is_ready.false) (c.in_ok-ask_for.ensures ws) (p ws)) c.keep_recall.ensures
