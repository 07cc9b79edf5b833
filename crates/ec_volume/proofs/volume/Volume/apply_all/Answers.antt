use Rattle.ec_volume.proofs.Changed.{is_changed}
use Rattle.ec_volume.proofs.volume.Volume.apply_all.Goals as goal

pub returns-clause-changed : goal.returns-clause-changed
returns-clause-changed c = rw (← c.self.view_is) (is_changed c.args.update.now c.self.inside.map c.carry_out.new.map c.requires c.self.invariant c.carry_out.ensures.volume c.in_ok-carry_out.ensures.ok)
