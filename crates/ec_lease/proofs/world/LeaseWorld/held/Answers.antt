use Rattle.ec_lease_machine.specs.Leases.{is_held}
use Rattle.ec_lease.specs.Worlds.{leased}
use Rattle.ec_lease.proofs.Rounds.{held_next}
use Rattle.ec_lease.proofs.world.LeaseWorld.held.Goals as goal

pub clerks-preserved : goal.clerks-preserved
clerks-preserved c = held_next (λ n. is_held n (leased c.args.self.now)) c.clerks.number c.clerks.held.items c.add_held.new.held.items _ c.clerks-test.true c.in_ok-add_held.ensures c.clerks.invariant
