use Rattle.std.proofs.Common.{ap, ◌∙◌}
use Rattle.ec_protocol.specs.OfPool.Goings.{is_kept_from}
use Rattle.ec_lease_machine.specs.Leases.{held}
use Rattle.ec_lease.specs.Worlds.{leased}
use Rattle.ec_lease.proofs.world.LeaseWorld.is_kept.Goals as goal

pub returns-in-Some : goal.returns-in-Some
returns-in-Some c = c.is_kept_from.ensures ∙ ap (is_kept_from (held (leased c.args.self.now))) c.in-Some.ensures
