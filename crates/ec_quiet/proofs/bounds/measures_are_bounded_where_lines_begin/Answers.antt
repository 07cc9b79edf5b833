use Rattle.ec_quiet.proofs.Bounded.{measure-most}
use Rattle.ec_quiet.proofs.bounds.measures_are_bounded_where_lines_begin.Goals as goal

pub returns : goal.returns
returns c = measure-most
