use Rattle.ec_machine_laws.proofs.Rows.{granted-others, lowered-others, not-own, no-conflict}
use Rattle.ec_sessions.specs.OfTokens.Tokens.{is_conflict}
use Rattle.std.proofs.Common.{not, ◌==◌}
use Rattle.ec_machine_laws.proofs.holders.changes_stay_with_their_session.Goals as goal

pub returns-clause-granted : goal.returns-clause-granted
returns-clause-granted c = λ ts s x h n y. granted-others s (λ g. not (g.0 == s)) (not-own s) ts x h n y

pub returns-clause-lowered : goal.returns-clause-lowered
returns-clause-lowered c = λ ts s x to n y. lowered-others s (λ g. not (g.0 == s)) (not-own s) ts x to n y

pub returns-clause-own : goal.returns-clause-own
returns-clause-own c = λ ts s x h g n y. granted-others s (is_conflict s g) (no-conflict s g) ts x h n y
