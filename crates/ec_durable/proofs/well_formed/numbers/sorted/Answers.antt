use Rattle.std.proofs.lemmas.List.Sorted.{IsNonDecreasingBy-from_sort}
use Rattle.ec_durable.proofs.OfWellFormed.Sorting.{ascends_from, times_moved}
use Rattle.ec_durable.proofs.well_formed.numbers.sorted.Goals as goal

pub returns-clause-ascends : goal.returns-clause-ascends
returns-clause-ascends c = ascends_from c.sort.new.self.items (IsNonDecreasingBy-from_sort (λ x. x) c.sort.new.self.items c.in_ok-sort.ensures.sorted)

pub returns-clause-same : goal.returns-clause-same
returns-clause-same c n = times_moved n c.args.numbers.items c.sort.new.self.items c.in_ok-sort.ensures.permutation
