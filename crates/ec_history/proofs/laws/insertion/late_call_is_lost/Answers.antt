use Rattle.ec_history.proofs.OfLaws.ForPlacing.Taken.{taken-keeps, taken-issues, taken-owes, taken-owes_others}
use Rattle.ec_history.proofs.laws.insertion.late_call_is_lost.Goals as goal

pub returns-clause-keeps : goal.returns-clause-keeps
returns-clause-keeps c = taken-keeps

pub returns-clause-issues : goal.returns-clause-issues
returns-clause-issues c = taken-issues

pub returns-clause-owes : goal.returns-clause-owes
returns-clause-owes c = taken-owes

pub returns-clause-others_owe : goal.returns-clause-others_owe
returns-clause-others_owe c = taken-owes_others
