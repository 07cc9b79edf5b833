use Rattle.ec_machine_laws.proofs.Evicting.{evicted-old, evicted-count, evicted-olds, room-left}
use Rattle.ec_machine_laws.proofs.evictions.older_tokens_are_evicted.Goals as goal

pub returns-clause-evicted : goal.returns-clause-evicted
returns-clause-evicted c = evicted-old

pub returns-clause-count : goal.returns-clause-count
returns-clause-count c = evicted-count

pub returns-clause-old : goal.returns-clause-old
returns-clause-old c = evicted-olds

pub returns-clause-room : goal.returns-clause-room
returns-clause-room c = room-left
