use Rattle.ec_quiet.proofs.Tried.{asks-for, comes, numbers, picks}
use Rattle.ec_quiet.proofs.clerk_phases.tries_send_one_message.Goals as goal

pub returns-clause-tries : goal.returns-clause-tries
returns-clause-tries z w d calm counters waits = comes w d calm counters waits

pub returns-clause-asks : goal.returns-clause-asks
returns-clause-asks z a n d none unspent first = (numbers d none unspent a n first, picks d none unspent a n first, asks-for d none unspent a n first)
