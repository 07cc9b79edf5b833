use Rattle.std.proofs.Common.{refl}
use Rattle.ec_machine_laws.proofs.pick_example.picks_can_come.Goals as goal

pub returns-clause-under : goal.returns-clause-under
returns-clause-under c = refl

pub returns-clause-alone : goal.returns-clause-alone
returns-clause-alone c = refl

pub returns-clause-behind : goal.returns-clause-behind
returns-clause-behind c = refl

pub returns-clause-beside : goal.returns-clause-beside
returns-clause-beside c = refl

pub returns-clause-later : goal.returns-clause-later
returns-clause-later c = refl

pub returns-clause-settled : goal.returns-clause-settled
returns-clause-settled c = refl

pub returns-clause-first : goal.returns-clause-first
returns-clause-first c = refl
