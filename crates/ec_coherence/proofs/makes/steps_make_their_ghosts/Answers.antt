use Rattle.ec_coherence.proofs.TakesMaking.{end-stands, takes-any}
use Rattle.ec_coherence.proofs.makes.steps_make_their_ghosts.Goals as goal

pub returns-clause-takes : goal.returns-clause-takes
returns-clause-takes z g v whole up c m p = takes-any g v whole up c m p

pub returns-clause-end : goal.returns-clause-end
returns-clause-end z g v whole up c = end-stands g v whole up c
