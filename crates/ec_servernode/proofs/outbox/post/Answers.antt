use Rattle.std.proofs.Common.{◌<◌, length, Ok, Err, Result, IfOk, ◌∙◌, ap, arith}
use Rattle.ec_servernode.specs.Run.{put}
use Rattle.ec_servernode.proofs.Boxes.{box_at, owner_same, put_changed}
use Rattle.ec_servernode.proofs.outbox.post.Goals as goal

if_ok : {A E : Type 0} {P Q : A → Type 0} (r : Result A E) → ((x : A) → P x → Q x) → IfOk r P → IfOk r Q
if_ok (Ok x) f p = f x p
if_ok (Err e) f p = p

pub returns-clause-put : goal.returns-clause-put
returns-clause-put c =
    let below = c.get.ensures.below in
    let same = c.requires in
    let within : c.get.result < length c.args.boxes.now.items = omega arith in
    if_ok c.put.result
    (λ _ done k. put_changed c.args.boxes.now.items c.get.result c.args.clerk k c.put.new.self c.args.msg within c.get.ensures.value
    (done ∙ ap (λ q. put q c.args.msg) (box_at c.args.boxes.now.items c.get.result c.index_mut.result.now within c.index_mut.ensures.value).0))
    c.put.ensures.put

pub returns-clause-owners : goal.returns-clause-owners
returns-clause-owners c k =
    let below = c.get.ensures.below in
    let same = c.requires in
    let within : c.get.result < length c.args.boxes.now.items = omega arith in
    owner_same c.args.boxes.now.items c.get.result k c.put.new.self within (c.put.ensures.owner ∙ (box_at c.args.boxes.now.items c.get.result c.index_mut.result.now within c.index_mut.ensures.value).1)
