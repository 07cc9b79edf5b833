use Rattle.std.proofs.Common.{arith}
use Rattle.ec_durable.proofs.OfWellFormed.Sorting.{short_rises}
use Rattle.ec_durable.proofs.well_formed.numbers.+is_rising.Goals as goal

pub returns-in_default : goal.returns-in_default
returns-in_default n c = short_rises c.args.numbers.now (omega (arith, c.in_default.len_below))
