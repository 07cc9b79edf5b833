use Rattle.ec_complete.proofs.OfAgreedLines.Placing.{placed-behind}
use Rattle.ec_complete.proofs.agreed_lines.placed_closures.write_behind_is_placed.Goals as goal

pub returns : goal.returns
returns c v f n ss formed top t l s i = placed-behind v f n ss formed top t l s i
