use Rattle.std.proofs.Common.{◌∙◌}
use Rattle.ec_lease.specs.Worlds.{leased}
use Rattle.ec_lease.proofs.Rounds.{renews_next}
use Rattle.ec_lease.proofs.world.LeaseWorld.renew.Goals as goal

pub clerks-preserved : goal.clerks-preserved
clerks-preserved c = record {
  renews = renews_next c.clerks.number (leased c.clerks.self) (leased c.renew_of.new.self) _ c.clerks-test.true c.in_ok-renew_of.ensures.ok c.clerks.invariant.renews;
  world = c.in_ok-renew_of.ensures.world ∙ c.clerks.invariant.world;
  piece = c.in_ok-renew_of.ensures.piece ∙ c.clerks.invariant.piece;
}
