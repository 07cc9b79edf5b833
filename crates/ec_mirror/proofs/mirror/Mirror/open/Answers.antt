use Rattle.std.proofs.Common.{ap}
use Rattle.std.specs.Prelude.{Result, Ok, Err}
use Rattle.ec_half.specs.declared.fault.MirrorFault.{MirrorFault}
use Rattle.ec_mirror.proofs.mirror.Mirror.open.Goals as goal

abbrev fault_in : {T : Type 0} → Result T MirrorFault → MirrorFault → MirrorFault
fault_in (Ok x) other = other
fault_in (Err fault) other = fault

pub returns-in-Err-clause-which : goal.returns-in-Err-clause-which
returns-in-Err-clause-which g c k place is = c.in-Err.ensures.which k place (ap (λ r. fault_in r c.in-Err.back.fault) is)

pub returns-in-Err-clause-bad_first : goal.returns-in-Err-clause-bad_first
returns-in-Err-clause-bad_first g c place is tells = c.in-Err.ensures.bad_first place (ap (λ r. fault_in r c.in-Err.back.fault) is) tells

pub returns-in-Err-clause-bad_second : goal.returns-in-Err-clause-bad_second
returns-in-Err-clause-bad_second g c place is tells = c.in-Err.ensures.bad_second place (ap (λ r. fault_in r c.in-Err.back.fault) is) tells

pub returns-in-Err-clause-first_is_good : goal.returns-in-Err-clause-first_is_good
returns-in-Err-clause-first_is_good g c place is tells = c.in-Err.ensures.first_is_good place (ap (λ r. fault_in r c.in-Err.back.fault) is) tells
