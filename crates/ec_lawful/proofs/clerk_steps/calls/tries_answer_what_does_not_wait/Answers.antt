use Rattle.ec_lawful.proofs.OfClerkSteps.ForCalls.Still.{begins-still, still-waits, tries-answer}
use Rattle.ec_lawful.proofs.OfClerkSteps.ForCalls.Turns.{still-turn, turns-allow}
use Rattle.ec_lawful.proofs.clerk_steps.calls.tries_answer_what_does_not_wait.Goals as goal

pub returns-clause-tries : goal.returns-clause-tries
returns-clause-tries z = tries-answer

pub returns-clause-still : goal.returns-clause-still
returns-clause-still z = still-waits

pub returns-clause-begin : goal.returns-clause-begin
returns-clause-begin z = begins-still

pub returns-clause-turn : goal.returns-clause-turn
returns-clause-turn z = still-turn

pub returns-clause-others : goal.returns-clause-others
returns-clause-others z g c k turn before rest w whole answers = turns-allow g c k w answers turn before rest whole
