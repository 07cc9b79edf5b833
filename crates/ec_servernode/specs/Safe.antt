-- What a server run keeps of a safe server.
use Rattle.std.specs.Prelude.{List}
use Rattle.ec_durable.specs.declared.state.Durable.{Durable}
use Rattle.ec_machine_laws.specs.OfAppliedOnce.SafeServers.{IsSafe, IsSafeBehind}
use Rattle.ec_servernode.specs.declared.state.Node.{Node}
use Rattle.ec_servernode.specs.declared.step.Step.{Step}
use Rattle.ec_servernode.specs.Node.{state_of}
use Rattle.ec_servernode.specs.Run.{leads, records}

-- From a safe server the steps lead to a safe one: no two tokens conflict, the volume is well formed, and each batch of a session is applied at most once.
abbrev pub StaysSafe : {K : Type 0} → (K → Durable) → Node K → List Step → Type 0
StaysSafe kept first steps = IsSafe (state_of kept first) → IsSafeBehind (kept first.keeper) (records steps) (leads (state_of kept first) steps)
