use Rattle.ec_history.proofs.OfLaws.ForRenamed.RenamedOwing.{owed-at, due-at}
use Rattle.ec_history.proofs.laws.renamed_histories.renamed_histories_owe_the_same.Goals as goal

pub returns-clause-owed : goal.returns-clause-owed
returns-clause-owed c r base other h d b ren same = owed-at r ren base other same d b h

pub returns-clause-due : goal.returns-clause-due
returns-clause-due c r base other h d b p cl ren same = due-at r ren base other same d b h p cl
