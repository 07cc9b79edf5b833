use Rattle.ec_history.proofs.OfLaws.ForPlacing.More.{kept-append, kept-step, issued-append, issued-step, owed-append, owed-step, owed-others, is_lost-append, due-step, count-next}
use Rattle.ec_history.proofs.laws.steps.longer_history.Goals as goal

pub returns-clause-keeps : goal.returns-clause-keeps
returns-clause-keeps c = kept-append

pub returns-clause-keeps_next : goal.returns-clause-keeps_next
returns-clause-keeps_next c = kept-step

pub returns-clause-issues : goal.returns-clause-issues
returns-clause-issues c = issued-append

pub returns-clause-issues_next : goal.returns-clause-issues_next
returns-clause-issues_next c = issued-step

pub returns-clause-owes : goal.returns-clause-owes
returns-clause-owes c = owed-append

pub returns-clause-owes_next : goal.returns-clause-owes_next
returns-clause-owes_next c = owed-step

pub returns-clause-others_owe : goal.returns-clause-others_owe
returns-clause-others_owe c = owed-others

pub returns-clause-loses : goal.returns-clause-loses
returns-clause-loses c = is_lost-append

pub returns-clause-reports_next : goal.returns-clause-reports_next
returns-clause-reports_next c = due-step

pub returns-clause-counts_next : goal.returns-clause-counts_next
returns-clause-counts_next c = count-next
