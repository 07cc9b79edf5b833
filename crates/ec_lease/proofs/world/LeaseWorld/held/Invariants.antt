use Rattle.std.proofs.Common.{◌≡◌, ◌++◌, ◌-◌}
use Rattle.std.specs.Prelude.{filter}
use Rattle.ec_sessions.specs.Slots.{run}
use Rattle.ec_protocol.specs.World.{clerks}
use Rattle.ec_lease_machine.specs.Leases.{is_held}
use Rattle.ec_lease.specs.Worlds.{leased}
use Rattle.ec_lease.proofs.world.LeaseWorld.held.Given as goal

abbrev pub invariant-clerks : goal.invariant-clerks
invariant-clerks l =
    l.held.items ++ filter (λ c. is_held c (leased l.self)) (run l.number (16 - l.number)) ≡ filter (λ c. is_held c (leased l.self)) clerks
