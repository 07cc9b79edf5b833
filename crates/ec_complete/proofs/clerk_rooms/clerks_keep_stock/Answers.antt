use Rattle.ec_complete.proofs.Steps.{calls-keep, messages-keep, pushes-keep, starts-have}
use Rattle.ec_complete.proofs.clerk_rooms.clerks_keep_stock.Goals as goal

pub returns-clause-messages : goal.returns-clause-messages
returns-clause-messages c = messages-keep

pub returns-clause-calls : goal.returns-clause-calls
returns-clause-calls c = calls-keep

pub returns-clause-pushes : goal.returns-clause-pushes
returns-clause-pushes c = pushes-keep

pub returns-clause-starts : goal.returns-clause-starts
returns-clause-starts c = starts-have
