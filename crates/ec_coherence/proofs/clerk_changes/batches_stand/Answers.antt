use Rattle.ec_coherence.proofs.BatchesStand.{again-stands, passes-stand, picks-stand}
use Rattle.ec_coherence.proofs.clerk_changes.batches_stand.Goals as goal

pub returns-clause-passed : goal.returns-clause-passed
returns-clause-passed z = passes-stand

pub returns-clause-again : goal.returns-clause-again
returns-clause-again z = again-stands

pub returns-clause-picked : goal.returns-clause-picked
returns-clause-picked z = picks-stand
