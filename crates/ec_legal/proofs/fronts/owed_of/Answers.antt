use Rattle.std.proofs.Common.{ap, ◌∙◌}
use Rattle.ec_history.specs.History.{owed}
use Rattle.ec_history.specs.Legal.{from_formatted}
use Rattle.ec_judge.proofs.Steps.{if-ok}
use Rattle.ec_legal.proofs.Before.{whole-front}
use Rattle.ec_legal.proofs.fronts.owed_of.Goals as goal

pub returns-clause-legal : goal.returns-clause-legal
returns-clause-legal c most l =
    if-ok _ _ c.owed.result (λ pairs e. e ∙ ap (λ h. owed from_formatted h c.args.clerk c.args.boot) (whole-front most c.args.entries.now c.in_ok-front.front.now l c.in_ok-front.ensures.front)) c.owed.ensures

pub returns-clause-front : goal.returns-clause-front
returns-clause-front c = if-ok _ _ c.owed.result (λ pairs e. (c.in_ok-front.front.now, c.in_ok-front.ensures.front, e)) c.owed.ensures
