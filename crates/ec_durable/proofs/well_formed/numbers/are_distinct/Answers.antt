use Rattle.std.proofs.Common.{◌∙◌, ℕ, List, ap}
use Rattle.ec_durable.specs.OfWellFormed.WellFormed.{is_rising}
use Rattle.ec_durable.proofs.OfWellFormed.Sorting.{rising_tells}
use Rattle.ec_durable.proofs.well_formed.numbers.are_distinct.Goals as goal

pub returns : goal.returns
returns c =
    c.is_rising.ensures ∙ ap (λ (l : List ℕ). is_rising l) c.as_slice.ensures.value
    ∙ rising_tells c.args.numbers.items c.in_ok-numbers.numbers.items c.in_ok-numbers.ensures.ascends c.in_ok-numbers.ensures.same
