use Rattle.std.proofs.Common.{◌∙◌, ap, ◌++◌, ◌∷◌, []}
use Rattle.std.proofs.lemmas.Result.{on_ok_weaker}
use Rattle.ec_cache.proofs.OfReport.Rows.{op_noted}
use Rattle.ec_cache.proofs.report.maps.note.Goals as goal

pub returns : goal.returns
returns c =
    on_ok_weaker c.insert.result
    (λ is. op_noted c.args.op c.args.obj c.of.result c.args.places.now c.take_ops-ops.new.places c.insert.new.self (c.of.ensures ∙ c.in_ok-push.ensures.items ∙ ap (λ l. l ++ c.args.op ∷ []) c.take_ops-ops.ensures.ops) c.take_ops-ops.ensures.others is)
    c.insert.ensures.ok
