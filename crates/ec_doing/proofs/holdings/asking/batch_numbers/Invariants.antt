use Rattle.std.proofs.Common.{◌≡◌, ◌++◌, drop}
use Rattle.ec_base.specs.Tables.{keys}
use Rattle.ec_doing.proofs.holdings.asking.batch_numbers.Given as goal

abbrev pub invariant-batches : goal.invariant-batches
invariant-batches l = l.numbers.items ++ keys (drop l.batch-index l.batches) ≡ keys l.batches
