use Rattle.std.proofs.Common.{◌∙◌, sym}
use Rattle.ec_pending.proofs.OfOwes.Due.{sync-reports}
use Rattle.ec_pending.proofs.owes.owes.Owes.report.Goals as goal

pub returns-then-is_sync : goal.returns-then-is_sync
returns-then-is_sync c = c.clear.ensures ∙ sync-reports c.args.outcome.now c.args.call.now c.args.self.now (sym c.is_sync.ensures ∙ c.if-is_sync.true)
