use Rattle.ec_coherence.proofs.ForClerk.Takes.{taken-inside, taken-outside}
use Rattle.ec_coherence.proofs.clerk.clerks_keep_tokens.Goals as goal

pub returns-clause-outside : goal.returns-clause-outside
returns-clause-outside c g d b e γ h none m p q = taken-outside g d b e γ h.sessions h.tokens none m p q

pub returns-clause-inside : goal.returns-clause-inside
returns-clause-inside c g d b e γ h s own begun needed then m p q = taken-inside g d b e γ h.sessions h.tokens s own begun needed then m p q
