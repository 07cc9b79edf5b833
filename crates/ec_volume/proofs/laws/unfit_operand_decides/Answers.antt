use Rattle.ec_volume.specs.Update.{operands}
use Rattle.ec_volume.proofs.Fitting.{none_is_fit, some_is_unfit}
use Rattle.ec_volume.proofs.laws.unfit_operand_decides.Goals as goal

pub returns-clause-none : goal.returns-clause-none
returns-clause-none c = none_is_fit

pub returns-clause-some : goal.returns-clause-some
returns-clause-some c = λ v u. some_is_unfit u v (operands u)
