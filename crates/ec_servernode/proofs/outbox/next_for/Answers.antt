use Rattle.std.proofs.Common.{◌≡◌, ◌<◌, length, true, Some, ◌∙◌, sym, ap, inr, arith, rules}
use Rattle.ec_servernode.specs.Node.{owner_at}
use Rattle.ec_servernode.specs.Run.{is_for}
use Rattle.ec_servernode.proofs.Boxes.{box_at, for_some, next_some, next_none}
use Rattle.ec_servernode.proofs.outbox.next_for.Goals.{in-Some+else-owner-pass, in_default}
use Rattle.ec_servernode.proofs.outbox.next_for.Goals as goal

pub returns-then-owner-pass-clause-none : goal.returns-then-owner-pass-clause-none
returns-then-owner-pass-clause-none c =
    let below = c.get.ensures.below in
    let same = c.requires in
    let within : c.get.result < length c.args.boxes.now = omega arith in
    let at = box_at c.args.boxes.now c.get.result c.index-boxes-get.result within (search rules) in
    let owner : owner_at c.args.boxes.now c.args.clerk ≡ Some c.in-Some.owner = ap (owner_at c.args.boxes.now) (sym c.get.ensures.value) ∙ (sym at.1 ∙ c.in-Some.is) in
    inr (ap (is_for c.args.pass) owner ∙ for_some c.in-Some.owner c.args.pass (search rules))

pub returns-clause-some : goal.returns-clause-some
returns-clause-some c =
    let below = c.get.ensures.below in
    let same = c.requires in
    let within : c.get.result < length c.args.boxes.now = omega arith in
    let at = box_at c.args.boxes.now c.get.result c.index-boxes-get.result within (search rules) in
    let mine : is_for c.args.pass c.index-boxes-get.result.owner ≡ true = elim c.match-outbox.branch [
      | in-Some+else-owner-pass w ↦ search rules
      | in_default w ↦ search rules
    ] in
    next_some c.args.boxes.now c.get.result c.args.clerk c.args.pass c.index-boxes-get.result c.get.ensures.value at c.front.result mine c.front.ensures.item

pub returns-clause-none : goal.returns-clause-none
returns-clause-none c =
    let below = c.get.ensures.below in
    let same = c.requires in
    let within : c.get.result < length c.args.boxes.now = omega arith in
    let at = box_at c.args.boxes.now c.get.result c.index-boxes-get.result within (search rules) in
    next_none c.args.boxes.now c.get.result c.args.clerk c.args.pass c.index-boxes-get.result c.get.ensures.value at c.front.result c.front.ensures.item
