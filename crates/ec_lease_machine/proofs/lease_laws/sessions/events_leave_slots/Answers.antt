use Rattle.ec_lease_machine.proofs.OfLeaseLaws.EventSlots.{event-goes}
use Rattle.ec_lease_machine.proofs.lease_laws.sessions.events_leave_slots.Goals as goal

pub returns : goal.returns
returns z first fate e w h f = event-goes first fate w h e f
