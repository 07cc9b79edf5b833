use Rattle.std.proofs.Common.{◌≡◌, subst, ◌∙◌, IfOk}
use Rattle.ec_history.specs.History.{History, owed}
use Rattle.ec_history.specs.Legal.{from_formatted}
use Rattle.ec_legal.specs.Fronts.{IsLegalFront}
use Rattle.ec_legal.proofs.history.History.owed.Goals as goal

pub returns-clause-front : goal.returns-clause-front
returns-clause-front c =
    subst (λ (h : History). IfOk c.owed_of.result (λ pairs. (front : History) × IsLegalFront h front × (pairs.items ≡ owed from_formatted front c.args.clerk c.args.boot)))
    (c.deref.ensures.value ∙ c.self.view_is) c.owed_of.ensures.front
