use Rattle.std.proofs.Common.{◌∙◌}
use Rattle.ec_judge.proofs.Steps.{if-ok}
use Rattle.ec_judge.proofs.checking.owed.Goals as goal

pub returns : goal.returns
returns c = if-ok _ _ c.owed.result (λ pairs e. e ∙ (c.in_ok-judge.ensures.starts c.args.clerk c.args.boot).owed) c.owed.ensures
