use Rattle.std.proofs.Common.{sym, ◌∙◌}
use Rattle.ec_doing.specs.Seen.{doing_of}
use Rattle.ec_doing.proofs.Steps.{on_ok, push_kept}
use Rattle.ec_doing.proofs.doing.Doing.try_push.Goals as goal

pub returns : goal.returns
returns c = on_ok c.ask_for.result (λ p ws. push_kept ws c.args.self.now c.args.op (doing_of ws c.keep_push.new.self) _ (sym c.is_settled.ensures ∙ c.if-is_settled.false) (c.in_ok-keep_push.ensures ws) (p ws)) c.ask_for.ensures
