use Rattle.ec_complete.proofs.CallsFollowed.{call-begins}
use Rattle.ec_complete.proofs.Greeting.{start-begins}
use Rattle.ec_complete.proofs.PushesFollowed.{push-begins}
use Rattle.ec_complete.proofs.followed_lines.first_steps_begin_behind.Goals as goal

pub returns-clause-calls : goal.returns-clause-calls
returns-clause-calls c = call-begins

pub returns-clause-starts : goal.returns-clause-starts
returns-clause-starts c = start-begins

pub returns-clause-pushes : goal.returns-clause-pushes
returns-clause-pushes c = push-begins
