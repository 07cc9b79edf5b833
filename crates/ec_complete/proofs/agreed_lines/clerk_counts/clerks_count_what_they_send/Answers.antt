use Rattle.ec_complete.proofs.OfAgreedLines.Steps.{calls-count, messages-count, pushes-count}
use Rattle.ec_complete.proofs.agreed_lines.clerk_counts.clerks_count_what_they_send.Goals as goal

pub returns-clause-messages : goal.returns-clause-messages
returns-clause-messages c = messages-count

pub returns-clause-calls : goal.returns-clause-calls
returns-clause-calls c = calls-count

pub returns-clause-pushes : goal.returns-clause-pushes
returns-clause-pushes c = pushes-count
