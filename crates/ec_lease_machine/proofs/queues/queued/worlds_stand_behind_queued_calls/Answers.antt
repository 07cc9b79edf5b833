use Rattle.ec_lawful.specs.Whole.{Whole}
use Rattle.ec_lease_machine.proofs.OfQueues.QueuedHold.{resumes-hold, waits-hold}
use Rattle.ec_lease_machine.proofs.OfQueues.QueuedKeep.{queued-keep}
use Rattle.ec_lease_machine.proofs.queues.queued.worlds_stand_behind_queued_calls.Goals as goal

pub returns-clause-waits : goal.returns-clause-waits
returns-clause-waits z w h c l cl may = waits-hold Whole queued-keep w h c l cl may

pub returns-clause-resumes : goal.returns-clause-resumes
returns-clause-resumes z w h c l cl may f = resumes-hold Whole queued-keep w h c l cl may f
