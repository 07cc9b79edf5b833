use Rattle.std.proofs.Common.{◌≡◌, subst, ◌∙◌, IfOk}
use Rattle.ec_history.specs.History.{History, updates, kept}
use Rattle.ec_history.specs.Legal.{from_formatted}
use Rattle.ec_legal.specs.Fronts.{IsLegalFront}
use Rattle.ec_legal.proofs.history.History.kept.Goals as goal

pub returns-clause-front : goal.returns-clause-front
returns-clause-front c =
    subst (λ (h : History). IfOk c.kept_of.result (λ list. (front : History) × IsLegalFront h front × (list.items ≡ updates (kept from_formatted front))))
    (c.deref.ensures.value ∙ c.self.view_is) c.kept_of.ensures.front
