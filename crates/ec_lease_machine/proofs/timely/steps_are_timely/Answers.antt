use Rattle.ec_lease_machine.proofs.OfTimely.Steps.{event-timed, resume-timed}
use Rattle.ec_lease_machine.proofs.timely.steps_are_timely.Goals as goal

pub returns-clause-events : goal.returns-clause-events
returns-clause-events z fate e w h may f a = event-timed w h.0 h.1 h.2 a fate e may

pub returns-clause-resumes : goal.returns-clause-resumes
returns-clause-resumes z w h c l cl bounded told f a = resume-timed w h.0 h.1 h.2 a c l cl bounded told
