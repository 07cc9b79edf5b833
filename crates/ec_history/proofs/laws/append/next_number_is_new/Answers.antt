use Rattle.ec_history.proofs.OfLaws.ForPlacing.Numbers.{issued-up_to, kept-up_to}
use Rattle.ec_history.proofs.laws.append.next_number_is_new.Goals as goal

pub returns-clause-among_issued : goal.returns-clause-among_issued
returns-clause-among_issued c = issued-up_to

pub returns-clause-among_kept : goal.returns-clause-among_kept
returns-clause-among_kept c = kept-up_to
