use Rattle.std.proofs.Common.{subst, ◌++◌}
use Rattle.ec_history.specs.Placing.{place}
use Rattle.ec_judge.specs.Fault.{IsEntryFault}
use Rattle.ec_legal.proofs.judging.at_entry.Goals as goal

pub returns-in-At : goal.returns-in-At
returns-in-At c = λ most trial shown followed entry. (followed, λ more. subst (IsEntryFault most (place (shown ++ more))) c.in-At.is (entry more))
