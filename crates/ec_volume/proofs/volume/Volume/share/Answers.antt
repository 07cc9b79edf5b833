use Rattle.std.proofs.Common.{◌∙◌, sym}
use Rattle.ec_volume.proofs.Alone.{looked_at, absent_at}
use Rattle.ec_volume.proofs.volume.Volume.share.Goals as goal

pub returns-in-Some : goal.returns-in-Some
returns-in-Some c = rw (← c.self.view_is, looked_at c.self.inside.map c.args.id c.in-Some.image.now c.in-Some.ensures.1) c.duplicate.ensures

pub returns-in_ok-new-in-None : goal.returns-in_ok-new-in-None
returns-in_ok-new-in-None c = rw (← c.self.view_is) (c.in_ok-new-in-None.ensures ∙ sym (absent_at c.self.inside.map c.args.id c.in-None.ensures))
