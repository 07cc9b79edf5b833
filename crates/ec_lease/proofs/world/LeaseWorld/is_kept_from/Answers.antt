use Rattle.ec_lease.specs.Worlds.{leased}
use Rattle.ec_lease.proofs.Kept.{kept_by}
use Rattle.ec_lease.proofs.world.LeaseWorld.is_kept_from.Goals as goal

pub returns-then-not-is_ended : goal.returns-then-not-is_ended
returns-then-not-is_ended c =
    kept_by c.args.kind c.args.clerk (leased c.args.self.now) c.is_ended.result c.is_held.result c.is_clerk.ensures c.is_ended.ensures c.if-not-is_ended.true c.is_held.ensures
