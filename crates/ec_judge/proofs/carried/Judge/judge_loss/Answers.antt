use Rattle.std.proofs.Common.{subst, ◌∙◌}
use Rattle.ec_history.specs.declared.entry.Entry.TheVariants as entry
use Rattle.ec_judge.specs.Carried.{Judges}
use Rattle.ec_judge.proofs.Steps.{if-ok}
use Rattle.ec_judge.proofs.carried.Judge.judge_loss.Goals as goal

pub returns : goal.returns
returns c =
    if-ok _ _ c.judge_lost.result (λ found h most turn p.
    subst (λ ns. Judges most turn c.args.self.now c.judge_lost.new.self (p, entry.Loss c.args.clerk c.args.boot ns) found) (c.in_ok-ops.ensures ∙ c.in_ok-from_slice.ensures.items) (h most turn p)) c.judge_lost.ensures
