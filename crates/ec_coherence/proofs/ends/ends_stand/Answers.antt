use Rattle.ec_coherence.proofs.Finishes.{finish-stands}
use Rattle.ec_coherence.proofs.Over.{over-stands}
use Rattle.ec_coherence.proofs.ends.ends_stand.Goals as goal

pub returns-clause-finish : goal.returns-clause-finish
returns-clause-finish z = finish-stands

pub returns-clause-over : goal.returns-clause-over
returns-clause-over z = over-stands
