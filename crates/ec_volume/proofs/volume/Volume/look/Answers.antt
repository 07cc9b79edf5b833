use Rattle.ec_volume.proofs.Held.{looked, looked_held}
use Rattle.ec_volume.proofs.Alone.{absent_at}
use Rattle.ec_volume.proofs.volume.Volume.look.Goals as goal

pub returns-in-Some-clause-image : goal.returns-in-Some-clause-image
returns-in-Some-clause-image c = rw (← c.self.view_is, c.get.ensures) (looked c.self.inside.map c.args.id c.in-Some.image.now c.self.invariant c.in-Some.ensures.1)

pub returns-in-Some-clause-limits : goal.returns-in-Some-clause-limits
returns-in-Some-clause-limits c = rw c.get.ensures (looked_held c.self.inside.map c.args.id c.in-Some.image.now c.self.invariant c.in-Some.ensures.1)

pub returns-in-None-clause-image : goal.returns-in-None-clause-image
returns-in-None-clause-image c = rw (← c.self.view_is) (absent_at c.self.inside.map c.args.id c.in-None.ensures)
