use Rattle.ec_machine_laws.proofs.Evicting.{evicted-few, evicted-held, evicted-free}
use Rattle.ec_machine_laws.proofs.evictions.evictions_are_of_tokens_that_are_too_many.Goals as goal

pub returns-clause-few : goal.returns-clause-few
returns-clause-few c = evicted-few

pub returns-clause-held : goal.returns-clause-held
returns-clause-held c = evicted-held

pub returns-clause-free : goal.returns-clause-free
returns-clause-free c = evicted-free
