use Rattle.ec_lawful.proofs.OfClerkSteps.ForDoings.Calling.{opening-order, order-agrees, order-stays}
use Rattle.ec_lawful.proofs.clerk_steps.doings.clerks_stay_in_order.Goals as goal

pub returns-clause-own : goal.returns-clause-own
returns-clause-own z = order-stays

pub returns-clause-agrees : goal.returns-clause-agrees
returns-clause-agrees z = order-agrees

pub returns-clause-opening : goal.returns-clause-opening
returns-clause-opening z = opening-order
