use Rattle.ec_lawful.proofs.OfClerkLaws.Wants.{begin-own, push-own, resend-own, take-own}
use Rattle.ec_lawful.proofs.clerk_laws.wants_are_of_what_is_not_held.Goals as goal

pub returns-clause-takes : goal.returns-clause-takes
returns-clause-takes c = take-own

pub returns-clause-begins : goal.returns-clause-begins
returns-clause-begins c = begin-own

pub returns-clause-pushes : goal.returns-clause-pushes
returns-clause-pushes c = push-own

pub returns-clause-resends : goal.returns-clause-resends
returns-clause-resends c = resend-own
