use Rattle.std.proofs.Common.{ap, ◌∙◌}
use Rattle.ec_history.specs.History.{updates, kept}
use Rattle.ec_history.specs.Legal.{from_formatted}
use Rattle.ec_judge.proofs.Steps.{if-ok}
use Rattle.ec_legal.proofs.Before.{whole-front}
use Rattle.ec_legal.proofs.fronts.kept_of.Goals as goal

pub returns-clause-legal : goal.returns-clause-legal
returns-clause-legal c most l =
    if-ok _ _ c.kept.result (λ list e. e ∙ ap (λ h. updates (kept from_formatted h)) (whole-front most c.args.entries.now c.in_ok-front.front.now l c.in_ok-front.ensures.front)) c.kept.ensures

pub returns-clause-front : goal.returns-clause-front
returns-clause-front c = if-ok _ _ c.kept.result (λ list e. (c.in_ok-front.front.now, c.in_ok-front.ensures.front, e)) c.kept.ensures
