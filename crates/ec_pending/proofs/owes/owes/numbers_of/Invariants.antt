use Rattle.std.proofs.Common.{◌≡◌, take}
use Rattle.ec_history.specs.History.{distinct_numbers}
use Rattle.ec_pending.proofs.owes.owes.numbers_of.Given as goal

abbrev pub invariant-loop-pair : goal.invariant-loop-pair
invariant-loop-pair l = l.ops ≡ distinct_numbers (take l.pair-index l.pairs)
