use Rattle.ec_lawful.proofs.RunsInOrder.{run-in-order}
use Rattle.ec_lawful.proofs.reached.runs_stay_in_order.Goals as goal

pub returns : goal.returns
returns z d wf sixteen zero w o ls fs fit n = run-in-order d wf sixteen zero w o ls fs fit n
