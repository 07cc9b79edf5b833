use Rattle.ec_lawful.proofs.OfClerkLaws.Tokens.{begin-stay, push-stay, resend-stay, take-stay}
use Rattle.ec_lawful.proofs.clerk_laws.tokens_stay.Goals as goal

pub returns-clause-takes : goal.returns-clause-takes
returns-clause-takes c = take-stay

pub returns-clause-begins : goal.returns-clause-begins
returns-clause-begins c = begin-stay

pub returns-clause-pushes : goal.returns-clause-pushes
returns-clause-pushes c = push-stay

pub returns-clause-resends : goal.returns-clause-resends
returns-clause-resends c = resend-stay
