use Rattle.std.proofs.Common.{◌≡◌, ◌<◌, length, Some, None, ◌∙◌, sym, ap, arith, rules}
use Rattle.ec_servernode.specs.Node.{owner_at}
use Rattle.ec_servernode.specs.Run.{is_for}
use Rattle.ec_servernode.proofs.Boxes.{box_at}
use Rattle.ec_servernode.proofs.outbox.is_for.Goals as goal

pub returns-in-Some : goal.returns-in-Some
returns-in-Some c =
    let below = c.get.ensures.below in
    let same = c.requires in
    let within : c.get.result < length c.args.boxes.now = omega arith in
    let at = box_at c.args.boxes.now c.get.result c.index-boxes-get.result within (search rules) in
    let owner : owner_at c.args.boxes.now c.args.clerk ≡ Some c.in-Some.owner = ap (owner_at c.args.boxes.now) (sym c.get.ensures.value) ∙ (sym at.1 ∙ c.in-Some.is) in
    sym (ap (is_for c.args.pass) owner)

pub returns-in-None : goal.returns-in-None
returns-in-None c =
    let below = c.get.ensures.below in
    let same = c.requires in
    let within : c.get.result < length c.args.boxes.now = omega arith in
    let at = box_at c.args.boxes.now c.get.result c.index-boxes-get.result within (search rules) in
    let owner : owner_at c.args.boxes.now c.args.clerk ≡ None = ap (owner_at c.args.boxes.now) (sym c.get.ensures.value) ∙ (sym at.1 ∙ c.in-None.is) in
    sym (ap (is_for c.args.pass) owner)
