use Rattle.std.proofs.Common.{◌∙◌, ap, ◌++◌, ◌∷◌, []}
use Rattle.std.proofs.lemmas.Result.{on_ok_weaker}
use Rattle.ec_order.proofs.OfNeeded.Maps.{added}
use Rattle.ec_order.proofs.needed.needed.add_range.Goals as goal

pub returns : goal.returns
returns c =
    let r = c.args.range.now in
    on_ok_weaker c.insert.result
    (λ is. added r.obj (r.at, r.len) c.of.result c.args.ranges.now c.take_ranges-items.new.ranges c.insert.new.self
    (c.of.ensures ∙ c.in_ok-push.ensures.items ∙ ap (λ l. l ++ (r.at, r.len) ∷ []) c.take_ranges-items.ensures.ranges) c.take_ranges-items.ensures.others is)
    c.insert.ensures.ok
