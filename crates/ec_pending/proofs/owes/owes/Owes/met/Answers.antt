use Rattle.std.proofs.Common.{◌∙◌, sym}
use Rattle.std.proofs.lemmas.Result.{IfOk-weaker}
use Rattle.ec_pending.proofs.OfOwes.Due.{sync-meets}
use Rattle.ec_pending.proofs.owes.owes.Owes.met.Goals as goal

pub returns-then-is_sync : goal.returns-then-is_sync
returns-then-is_sync c = IfOk-weaker c.all.result _ _ (λ pairs h. h ∙ sync-meets c.args.outcome.now c.args.call.now c.args.self.now (sym c.is_sync.ensures ∙ c.if-is_sync.true)) c.all.ensures
