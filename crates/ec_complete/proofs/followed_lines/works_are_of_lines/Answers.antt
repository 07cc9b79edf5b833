use Rattle.ec_complete.proofs.ForFaultless.Works.{calls-worked, pushes-worked}
use Rattle.ec_complete.proofs.followed_lines.works_are_of_lines.Goals as goal

pub returns-clause-calls : goal.returns-clause-calls
returns-clause-calls c = calls-worked

pub returns-clause-pushes : goal.returns-clause-pushes
returns-clause-pushes c = pushes-worked
