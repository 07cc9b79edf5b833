use Rattle.ec_history.proofs.OfLaws.ForPlacing.Parts.{needs-part, needs-minus, needs-joined}
use Rattle.ec_history.proofs.laws.closure.parts_hold_their_needs.Goals as goal

pub returns-clause-part : goal.returns-clause-part
returns-clause-part c = needs-part (λ k. k.update)

pub returns-clause-minus : goal.returns-clause-minus
returns-clause-minus c = needs-minus (λ k. k.update)

pub returns-clause-join : goal.returns-clause-join
returns-clause-join c = needs-joined (λ k. k.update)

pub returns-clause-numbered_part : goal.returns-clause-numbered_part
returns-clause-numbered_part c = needs-part (λ x. x.1)

pub returns-clause-numbered_minus : goal.returns-clause-numbered_minus
returns-clause-numbered_minus c = needs-minus (λ x. x.1)

pub returns-clause-numbered_join : goal.returns-clause-numbered_join
returns-clause-numbered_join c = needs-joined (λ x. x.1)
