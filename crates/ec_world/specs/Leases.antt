-- What leases are told of a world.
use Rattle.std.specs.Prelude.{◌≡◌, Option, None, Some, length}
use Rattle.ec_base.specs.Limits.{clerk_count}
use Rattle.ec_clerk.specs.declared.running.fault.StepFault.{StepFault}
use Rattle.ec_clerk.specs.declared.running.fault.StepFault.TheVariants as step
use Rattle.ec_protocol.specs.World.{Moving}
use Rattle.ec_protocol.specs.declared.server.Server.{Server}
use Rattle.ec_protocol.specs.declared.world.World.{World as State}
use Rattle.ec_protocol.specs.declared.world.WorldFault.{WorldFault}
use Rattle.ec_protocol.specs.declared.world.WorldFault.TheVariants as fault

-- a running server has a slot for each clerk
abbrev pub HasSlots : Option Server → Type 0
HasSlots None = Unit {0}
HasSlots (Some v) = length v.durable.sessions ≡ clerk_count

-- Why a queued call doesn't begin: a spent counter of the machine changes nothing; after want of memory the world answers want of memory alone.
abbrev pub QueuesNot : WorldFault → Moving → State → State → Type 0
QueuesNot (fault.Spent n) m old new = (m.fault ≡ Some (fault.Spent n)) × (new ≡ old)
QueuesNot fault.NoMemory m old new = Unit {0}
QueuesNot _ m old new = ⊥

-- so it is of the step under way
abbrev pub BeginsNot : StepFault → Moving → State → State → Type 0
BeginsNot (step.Spent n) m old new = (m.fault ≡ Some (fault.Spent n)) × (new ≡ old)
BeginsNot step.NoMemory m old new = Unit {0}
BeginsNot _ m old new = ⊥
