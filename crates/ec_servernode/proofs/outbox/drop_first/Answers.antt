use Rattle.std.proofs.Common.{◌==◌, ◌<◌, length, drop, ◌∙◌, ap, arith, cond}
use Rattle.ec_servernode.specs.Node.{queue_at}
use Rattle.ec_servernode.proofs.Boxes.{box_at, queue_changed, owner_same}
use Rattle.ec_servernode.proofs.outbox.drop_first.Goals as goal

pub returns-clause-dropped : goal.returns-clause-dropped
returns-clause-dropped c k =
    let below = c.get.ensures.below in
    let same = c.requires in
    let within : c.get.result < length c.args.boxes.now.items = omega arith in
    let old = queue_at c.args.boxes.now.items k in
    queue_changed c.args.boxes.now.items c.get.result k _ (λ q. drop 1 q) within
    (c.pop_front.ensures.rest ∙ ap (λ q. drop 1 q) (box_at c.args.boxes.now.items c.get.result c.index_mut.result.now within c.index_mut.ensures.value).0)
    ∙ ap (λ n. cond (n == k) (drop 1 old) old) c.get.ensures.value

pub returns-clause-owners : goal.returns-clause-owners
returns-clause-owners c k =
    let below = c.get.ensures.below in
    let same = c.requires in
    let within : c.get.result < length c.args.boxes.now.items = omega arith in
    owner_same c.args.boxes.now.items c.get.result k _ within (box_at c.args.boxes.now.items c.get.result c.index_mut.result.now within c.index_mut.ensures.value).1
