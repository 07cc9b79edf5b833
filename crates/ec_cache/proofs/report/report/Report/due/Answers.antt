use Rattle.std.proofs.Common.{◌∙◌, ap}
use Rattle.std.proofs.lemmas.Result.{IfOk-weaker}
use Rattle.ec_cache.specs.OfReport.Report.{due}
use Rattle.ec_cache.proofs.OfReport.Rows.{due_is}
use Rattle.ec_cache.proofs.report.report.Report.due.Goals as goal

pub returns : goal.returns
returns c =
    IfOk-weaker c.due.result _ _ (λ ops found. due_is c.args.touched.now c.self.inside.rows c.self.inside.places ops.items c.self.invariant found ∙ ap (due c.args.touched.now) c.self.view_is) c.due.ensures
