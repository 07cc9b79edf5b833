use Rattle.ec_lawful.proofs.ForWhole.Halts.{crashed-whole, nothing-whole, unsettled-whole}
use Rattle.ec_lawful.proofs.whole.crashes_keep_all_facts.Goals as goal

pub returns-clause-crashes : goal.returns-clause-crashes
returns-clause-crashes z g w c = crashed-whole g w c

pub returns-clause-lines : goal.returns-clause-lines
returns-clause-lines z g w = (nothing-whole g w, unsettled-whole g w)
