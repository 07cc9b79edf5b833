use Rattle.std.proofs.Common.{◌∙◌, ap, ◌++◌, ◌∷◌, [], cond}
use Rattle.std.proofs.lemmas.Result.{on_ok_weaker}
use Rattle.std.specs.Ordering.{nat_cmp}
use Rattle.std.specs.FinMap.{put}
use Rattle.ec_volume.specs.Update.{member}
use Rattle.ec_cache.specs.OfReport.Index.{ops_at}
use Rattle.ec_cache.proofs.OfReport.Rows.{agrees_added}
use Rattle.ec_cache.proofs.report.maps.add.Goals as goal

pub returns-clause-agrees : goal.returns-clause-agrees
returns-clause-agrees c =
    on_ok_weaker c.insert.result
    (λ is. agrees_added c.args.op c.args.objs.now c.args.rows.now c.args.places.now c.insert.new.self c.note_all.new.places c.requires.agrees c.requires.above
    (is ∙ ap (λ o. put nat_cmp c.args.op o c.args.rows.now) c.in_ok-duplicate.ensures)
    (λ x. c.in_ok-note_all.ensures x ∙ ap (λ l. ops_at x c.args.places.now ++ cond (member x l) (c.args.op ∷ []) []) c.as_slice.ensures))
    c.insert.ensures.ok
