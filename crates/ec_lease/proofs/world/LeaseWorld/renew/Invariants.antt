use Rattle.std.proofs.Common.{◌≡◌, ◌-◌}
use Rattle.ec_sessions.specs.Slots.{run}
use Rattle.ec_protocol.specs.World.{clerks}
use Rattle.ec_lease_machine.specs.Leases.{renew_each}
use Rattle.ec_lease.specs.Worlds.{leased}
use Rattle.ec_lease.proofs.world.LeaseWorld.renew.Given as goal

abbrev pub invariant-clerks : goal.invariant-clerks
invariant-clerks l = record {
  renews : renew_each (run l.number (16 - l.number)) (leased l.self) ≡ renew_each clerks (leased l.fn.self);
  world : l.self.world ≡ l.fn.self.world;
  piece : l.self.piece ≡ l.fn.self.piece;
}
