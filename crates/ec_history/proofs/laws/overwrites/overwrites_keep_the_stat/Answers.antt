use Rattle.ec_history.proofs.OfLaws.ForPlacing.Overwriting.{overwrite-file, overwrite-kind, overwrite-stat, overwrite-length}
use Rattle.ec_history.proofs.laws.overwrites.overwrites_keep_the_stat.Goals as goal

pub returns-clause-file : goal.returns-clause-file
returns-clause-file c = overwrite-file

pub returns-clause-kind : goal.returns-clause-kind
returns-clause-kind c = overwrite-kind

pub returns-clause-stat : goal.returns-clause-stat
returns-clause-stat c = overwrite-stat

pub returns-clause-length : goal.returns-clause-length
returns-clause-length c = overwrite-length
