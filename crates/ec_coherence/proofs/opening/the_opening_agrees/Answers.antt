use Rattle.ec_coherence.proofs.ForServer.Beginning.{opening-agrees, first-start-stands}
use Rattle.ec_coherence.proofs.opening.the_opening_agrees.Goals as goal

pub returns-clause-opening : goal.returns-clause-opening
returns-clause-opening c = opening-agrees

pub returns-clause-start : goal.returns-clause-start
returns-clause-start c = first-start-stands
