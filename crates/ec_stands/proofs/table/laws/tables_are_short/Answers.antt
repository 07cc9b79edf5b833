use Rattle.ec_stands.specs.OfTable.LengthLaws.{state_len}
use Rattle.ec_stands.proofs.table.laws.tables_are_short.Goals as goal

pub returns : goal.returns
returns c = state_len
