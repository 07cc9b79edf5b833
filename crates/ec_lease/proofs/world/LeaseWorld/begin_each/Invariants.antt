use Rattle.std.proofs.Common.{◌≡◌, ◌≤◌, ◌-◌}
use Rattle.ec_lease.specs.Queued.{begin_from}
use Rattle.ec_lease.specs.Worlds.{KeepsServer}
use Rattle.ec_lease.proofs.world.LeaseWorld.begin_each.Given as goal

abbrev pub invariant-queue : goal.invariant-queue
invariant-queue l = record {
  begins : begin_from l.clerk l.begun l.self ≡ begin_from l.clerk 0 l.fn.self;
  book : l.self.book ≡ l.fn.self.book;
  within : l.begun ≤ l.count;
  same : KeepsServer l.fn.self l.self;
}

abbrev pub decreases-queue : goal.decreases-queue
decreases-queue l = l.count - l.begun
