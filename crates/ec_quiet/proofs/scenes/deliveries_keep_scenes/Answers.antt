use Rattle.ec_quiet.proofs.Delivering as delivering
use Rattle.ec_quiet.proofs.scenes.deliveries_keep_scenes.Goals as goal

pub returns-clause-next : goal.returns-clause-next
returns-clause-next z w sc c m rest i head = (delivering.n w sc i c m rest head, delivering.due-is w sc i c m rest head, delivering.scene-then w sc i c m rest head)

pub returns-clause-none : goal.returns-clause-none
returns-clause-none z w sc i e = delivering.none-due w sc i e
