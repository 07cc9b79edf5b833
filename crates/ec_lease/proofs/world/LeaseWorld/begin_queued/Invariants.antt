use Rattle.std.proofs.Common.{◌≡◌, ◌-◌}
use Rattle.ec_sessions.specs.Slots.{run}
use Rattle.ec_protocol.specs.World.{clerks}
use Rattle.ec_lease_machine.specs.Leases.{begin_queued}
use Rattle.ec_lease.specs.Worlds.{under_way, KeepsServer}
use Rattle.ec_lease.proofs.world.LeaseWorld.begin_queued.Given as goal

abbrev pub invariant-clerks : goal.invariant-clerks
invariant-clerks l = record {
  begins : begin_queued (run l.number (16 - l.number)) (under_way l.self) ≡ begin_queued clerks (under_way l.fn.self);
  same : KeepsServer l.fn.self l.self;
}
