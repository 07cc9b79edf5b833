use Rattle.std.proofs.Common.{◌==◌, ◌<◌, length, cond, Some, ◌∙◌, refl, sym, ap, arith}
use Rattle.ec_servernode.specs.Run.{owner_now}
use Rattle.ec_servernode.specs.Node.{owner_at}
use Rattle.ec_servernode.proofs.Boxes.{box_at, owner_set, queue_same}
use Rattle.ec_servernode.proofs.outbox.own.Goals as goal

pub returns-in-Some-clause-same : goal.returns-in-Some-clause-same
returns-in-Some-clause-same c k =
    let below = c.get.ensures.below in
    let same = c.requires in
    let within : c.get.result < length c.args.boxes.now.items = omega arith in
    queue_same c.args.boxes.now.items c.get.result k _ within (box_at c.args.boxes.now.items c.get.result c.index_mut.result.now within c.index_mut.ensures.value).0

pub returns-in-Some-clause-owners : goal.returns-in-Some-clause-owners
returns-in-Some-clause-owners c k le =
    let below = c.get.ensures.below in
    let same = c.requires in
    let within : c.get.result < length c.args.boxes.now.items = omega arith in
    let old = owner_at c.args.boxes.now.items k in
    owner_set c.args.boxes.now.items c.get.result k _ within ∙ (ap (λ n. cond (n == k) (Some c.args.pass) old) c.get.ensures.value ∙ sym (ap (λ h. owner_now k h c.args.pass old) c.in-Some.is))

pub returns-in_default : goal.returns-in_default
returns-in_default c = record {
  sized = c.requires;
  same = λ k. refl;
  owners = λ k le. sym (ap (λ h. owner_now k h c.args.pass (owner_at c.args.boxes.now.items k)) c.in_default.is);
}
