use Rattle.std.proofs.Common.{sym, ◌∙◌}
use Rattle.ec_lease.specs.Worlds.{leased}
use Rattle.ec_lease.proofs.OfDrill.Carried.{rests}
use Rattle.ec_lease.proofs.drill.carrying.end_settling.Goals as goal

pub returns-in_default-clause-rested : goal.returns-in_default-clause-rested
returns-in_default-clause-rested c = λ goes. rests (leased c.args.world.now) c.args.piece.now.items (sym c.in-Ok.ensures.ok ∙ c.in_default.is)
