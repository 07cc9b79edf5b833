use Rattle.ec_pending.specs.OfOverlay.Shown.{shown}
use Rattle.ec_pending.proofs.OfOverlay.Shown.{all-changed}
use Rattle.ec_pending.proofs.overlay.overlay.Overlay.+carry_out_at.Goals as goal
use Rattle.ec_base.proofs.Lists.{split_first}

pub returns-else-not-branch-clause-images : goal.returns-else-not-branch-clause-images
returns-else-not-branch-clause-images t c =
    let done = rw c.if-not-branch.false at c.in_ok-change-in-len1-up.ensures.images in
    all-changed c.args.update.now c.obj-item.result c.args.objs.now _ (split_first c.args.objs.now c.obj-item.result c.obj-item.is c.in-len1-up.len_at_least) (shown c.args.self.now) (shown c.change.new.self) c.requires.distinct done.0 done.1 c.carry_out_at.result _ c.carry_out_at.ensures.images
