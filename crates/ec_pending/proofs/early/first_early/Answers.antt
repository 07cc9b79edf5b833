use Rattle.std.proofs.Common.{◌∙◌, ◌<◌, ◌≤◌, sym, subst}
use Rattle.ec_pending.proofs.Covering.{Late, none-early, first-early}
use Rattle.ec_pending.proofs.early.first_early.Goals as goal

pub returns-in_default : goal.returns-in_default
returns-in_default c =
    none-early c.args.places.now c.args.ask c.args.begun c.args.order.now c.requires.rising c.first.result c.first.ensures
    (subst (Late c.args.places.now c.args.begun) (sym c.in_default.is) tt)

pub returns-then-begun-place_of : goal.returns-then-begun-place_of
returns-then-begun-place_of c =
    none-early c.args.places.now c.args.ask c.args.begun c.args.order.now c.requires.rising c.first.result c.first.ensures
    (subst (Late c.args.places.now c.args.begun) (sym c.in-Some.is) (subst (λ n. c.args.begun < n) c.place_of.ensures c.if-begun-place_of.true))

pub returns : goal.returns
returns c =
    first-early c.args.places.now c.args.ask c.args.begun c.in-Some.op c.args.order.now c.requires.sorted (sym c.in-Some.is ∙ c.first.ensures)
    (subst (λ n. n ≤ c.args.begun) c.place_of.ensures c.if-begun-place_of.false)
