use Rattle.std.proofs.Common.{subst}
use Rattle.std.proofs.lemmas.Result.{IfOk-weaker}
use Rattle.ec_sessions.specs.Limits.{max_batch_ops}
use Rattle.ec_log.specs.OfChains.Front.{IsFront}
use Rattle.ec_log.proofs.Fronts.{front-asked}
use Rattle.ec_log.proofs.asked.front_of.Goals as goal

pub returns-clause-front : goal.returns-clause-front
returns-clause-front c =
    IfOk-weaker c.front.result _ _ (λ ops is. front-asked c.args.asked c.args.undurable.now ops.items (subst (λ a. IsFront a c.args.undurable.now max_batch_ops ops.items) c.ask_of.ensures is)) c.front.ensures.front
