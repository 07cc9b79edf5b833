use Rattle.ec_machine_laws.proofs.Needing.{needed-touched}
use Rattle.ec_machine_laws.proofs.needs.needed_objects_are_touched.Goals as goal

pub returns : goal.returns
returns c = needed-touched
