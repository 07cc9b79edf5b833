use Rattle.ec_history.proofs.OfLaws.ForRenamed.RenamedKept.{kept-at, issues-at, touched-now}
use Rattle.ec_history.proofs.laws.renamed_histories.renamed_histories_keep_the_same.Goals as goal

pub returns-clause-kept : goal.returns-clause-kept
returns-clause-kept c r base other h ren same = kept-at r ren base other same h

pub returns-clause-issued : goal.returns-clause-issued
returns-clause-issued c r base other h ren same = issues-at r ren base other same h

pub returns-clause-touched : goal.returns-clause-touched
returns-clause-touched c r base other h e ren same = touched-now r ren base other same h e
