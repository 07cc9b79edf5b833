use Rattle.std.proofs.Common.{◌≡◌, ◌⊎◌}
use Rattle.ec_lease_machine.specs.Leases.{note_open}
use Rattle.ec_world.specs.Leases.{HasSlots}
use Rattle.ec_lease.specs.Worlds.{leased}
use Rattle.ec_lease.proofs.Noting.{note_from}
use Rattle.ec_lease.proofs.world.LeaseWorld.note_open.Given as goal

abbrev pub invariant-clerks : goal.invariant-clerks
invariant-clerks l = record {
  notes : note_from (leased l.fn.self).world.server l.number (leased l.self) ≡ note_open (leased l.fn.self).world.server (leased l.fn.self);
  slots : (l.number ≡ 0) ⊎ HasSlots (leased l.fn.self).world.server;
  world : l.self.world ≡ l.fn.self.world;
  piece : l.self.piece ≡ l.fn.self.piece;
}
