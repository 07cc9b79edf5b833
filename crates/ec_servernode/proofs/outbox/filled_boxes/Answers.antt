use Rattle.std.proofs.Common.{◌∙◌, ap}
use Rattle.ec_servernode.specs.Run.{put_all, for_clerk}
use Rattle.ec_servernode.proofs.outbox.filled_boxes.Goals as goal

pub returns-clause-filled : goal.returns-clause-filled
returns-clause-filled c k = c.in_ok-post_all.ensures.put k ∙ ap (λ q. put_all q (for_clerk k c.args.sent.items)) (c.in_ok-boxes.ensures.empty k).0

pub returns-clause-owners : goal.returns-clause-owners
returns-clause-owners c k = c.post_all.ensures.owners k ∙ (c.in_ok-boxes.ensures.empty k).1
