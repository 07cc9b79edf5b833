use Rattle.ec_quiet.proofs.Counting.{calls, delivered-one, pushes}
use Rattle.ec_quiet.proofs.settling.steps_count_messages.Goals as goal

pub returns-clause-deliveries : goal.returns-clause-deliveries
returns-clause-deliveries z w sc c m rest n i e f g = delivered-one w sc i c m rest e n f

pub returns-clause-calls : goal.returns-clause-calls
returns-clause-calls z w c line cl = calls w c line cl

pub returns-clause-pushes : goal.returns-clause-pushes
returns-clause-pushes z w c n k = pushes w c n k
