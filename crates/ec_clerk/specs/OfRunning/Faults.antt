-- What faults of nodes become in a world.
use Rattle.ec_protocol.specs.declared.clerk.ClerkFault.{ClerkFault}
use Rattle.ec_protocol.specs.declared.clerk.ClerkFault.TheVariants as clerk
use Rattle.ec_protocol.specs.declared.world.WorldFault.{WorldFault}
use Rattle.ec_protocol.specs.declared.world.WorldFault.TheVariants as world
use Rattle.ec_clerk.specs.declared.running.fault.StepFault.{StepFault}
use Rattle.ec_clerk.specs.declared.running.fault.StepFault.TheVariants as step

abbrev pub of_clerk : ClerkFault → StepFault
of_clerk clerk.NoSuchOp = step.NoSuchOp
of_clerk (clerk.Spent n) = step.Spent n
of_clerk clerk.NoMemory = step.NoMemory

abbrev pub of_step : StepFault → WorldFault
of_step step.DiskFailed = world.DiskFailed
of_step (step.Spent n) = world.Spent n
of_step step.NoSuchOp = world.NoSuchOp
of_step step.NoSuchMsg = world.NoSuchMsg
of_step step.NoMemory = world.NoMemory
