use Rattle.ec_history.proofs.OfLaws.ForRenamed.Images.{operands-by, operand-by, fits-by, effect-by, sound-by}
use Rattle.ec_history.proofs.OfLaws.ForRenamed.Needs.{overwrite-at, before-at, under-at, needs-at}
use Rattle.ec_history.proofs.laws.renamed_updates.renamed_updates_do_alike.Goals as goal

pub returns-clause-operands : goal.returns-clause-operands
returns-clause-operands c = λ r u ren. operands-by r ren u

pub returns-clause-operand : goal.returns-clause-operand
returns-clause-operand c = λ r o u ren. operand-by r ren o u

pub returns-clause-fits : goal.returns-clause-fits
returns-clause-fits c = λ r u o i ren. fits-by r ren u o i

pub returns-clause-effect : goal.returns-clause-effect
returns-clause-effect c = λ r u o i ren. effect-by r ren u o i

pub returns-clause-sound : goal.returns-clause-sound
returns-clause-sound c = λ r u ren. sound-by r ren u

pub returns-clause-overwrite : goal.returns-clause-overwrite
returns-clause-overwrite c = overwrite-at

pub returns-clause-before : goal.returns-clause-before
returns-clause-before c = λ r a b ren. before-at r ren a b

pub returns-clause-under : goal.returns-clause-under
returns-clause-under c = λ r a b ren. under-at r ren a b

pub returns-clause-needs : goal.returns-clause-needs
returns-clause-needs c = λ r a b ren. needs-at r ren a b
